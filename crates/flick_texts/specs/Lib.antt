pub mod Arrays
pub mod Counted
pub mod MadeText
pub mod Show
pub mod Spent
pub mod StubTexts
pub mod TypeText
