-- The lemmas on composition in tables for other crates.
pub use Rattle.coercion_compose.proofs.Equations.{id_then, fail_then, project_then, inject_then_id, inject_then_fail}
pub use Rattle.coercion_compose.proofs.Equations.{inject_then_project, middle_then_id, middle_then_fail}
pub use Rattle.coercion_compose.proofs.Equations.{middle_then_inject, middle_then_middle}
