-- What the contracts of `roots_c` cite.
pub mod Flat
pub mod FlatRecords
