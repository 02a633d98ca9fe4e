pub mod EquationLemmas
pub mod TruthLemmas
pub mod OptionLemmas
pub mod ListLemmas
pub mod NumberLemmas
pub mod BelowLemmas
pub mod PairLemmas
