-- The theorems about what specs/ states, and the lemmas that only they read.
pub mod AnswerLaws
pub mod BoundLaws
pub mod EarlyLaws
pub mod EndLaws
pub mod HistoryLaws
pub mod MarkLaws
pub mod PairLaws
pub mod RefusalLaws
pub mod Demand1
pub mod Demand2
pub mod Demand3
pub mod Returned
pub mod RecordLaws
pub mod RecordPromises
pub mod Cases
