-- The theorems that advice on a job rests on.
pub mod Advice
