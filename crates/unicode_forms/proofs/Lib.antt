-- Laws of texts, their decomposition and their order.
pub mod Utf8Laws
pub mod TableLaws
pub mod OrderLaws
pub mod EquivalenceLaws
pub mod LengthLaws
pub mod SettleLaws
pub mod FormLaws
