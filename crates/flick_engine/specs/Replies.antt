-- The messages of replies.
pub use Rattle.stub_codes.specs.Replies.{reply_type, IsChoice, arm_type_in, HasArm, arm_type, arm_parts, arm_message, reply_message}
