-- Lemmas for the crates above.
pub use Rattle.report.proofs.LineLemmas.{lines-more}
