-- What the contracts of `record_text` cite.
pub mod RecordTexts
-- what proofs cite
pub mod RecordTextLaws
pub mod RecordReplyLaws
pub mod RefusalLaws
pub mod Examples
