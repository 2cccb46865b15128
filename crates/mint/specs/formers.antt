pub mod keyed
