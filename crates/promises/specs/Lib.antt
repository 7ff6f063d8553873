-- What is promised of every search. A customer reads Cases, Demand1, Demand2, Demand3, Returned, RecordPromises and RecordCases, with the words in Counts, Searches and RecordLaws; the theorems stand in proofs/ under the same names, but for the worked cases of RecordCases.
pub mod Cases
pub mod Counts
pub mod Searches
pub mod Demand1
pub mod Demand2
pub mod Demand3
pub mod Returned
pub mod RecordPromises
pub mod RecordCases
pub mod RecordLaws
-- what only proofs read
pub mod EarlyLaws
