-- The operations of a binding, as its unit has them.
pub use Rattle.stub_codes.specs.Operations.{operations_in, IsOperation}
