-- The laws that the code of the layers rests on.
pub mod SetCode
pub mod RoundCode
pub mod FactCode
pub mod LayerCode
