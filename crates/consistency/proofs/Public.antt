-- The lemmas on consistency and blends that other crates use.
pub use Rattle.consistency.proofs.ConsistentLemmas.{consistent_by_rows, consistent_kept}
pub use Rattle.consistency.proofs.BlendLemmas.{IsFormed-grown, parts_of-with_parts}
pub use Rattle.consistency.proofs.FormedBlends.{blend_forms}
