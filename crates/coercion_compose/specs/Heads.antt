-- What stands at a place of a table of coercions, but for the parts of its middle.
use Rattle.std.specs.Prelude.{◌≡◌, ℕ, List, Some, slice_get}
use Rattle.coercion_norm.specs.Nodes.{Node, IdNode, FailNode, MiddleNode, InjectNode, ProjectNode}
use Rattle.coercion_compose.specs.declared.heads.Head.{Head}
use Rattle.coercion_compose.specs.declared.heads.Head.TheVariants.{Id, Fail, Middle, Inject, Project}

abbrev pub HasHead : List Node → ℕ → Head → Type 0
HasHead nodes place Id = slice_get nodes place ≡ Some IdNode
HasHead nodes place (Fail label) = slice_get nodes place ≡ Some (FailNode label.0)
HasHead nodes place (Middle kind) = (parts : List ℕ) × (slice_get nodes place ≡ Some (MiddleNode kind parts))
HasHead nodes place (Inject g kept) = slice_get nodes place ≡ Some (InjectNode g.0 kept.0)
HasHead nodes place (Project wanted label i) = slice_get nodes place ≡ Some (ProjectNode wanted.0 label.0 i.0)
