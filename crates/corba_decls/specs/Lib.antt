pub mod Levels
pub mod TypesFall
pub mod TypeSpelling
pub mod TypeReaders
pub mod MemberSpelling
pub mod MemberReaders
pub mod DeclSpelling
pub mod DeclReaders
