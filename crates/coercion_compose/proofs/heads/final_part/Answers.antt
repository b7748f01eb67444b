use Rattle.std.proofs.Common.{◌≡◌, ◌⊎◌, inl, inr, ℕ, ◌<◌, List, length, sym, ap, ◌∙◌, subst}
use Rattle.grift_base.specs.declared.places.TypeId.{TypeId}
use Rattle.grift_base.specs.declared.places.LabelId.{LabelId}
use Rattle.coercion_norm.specs.declared.middles.MiddleKind.{MiddleKind}
use Rattle.coercion_norm.specs.declared.nodes.CoercionId.{CoercionId}
use Rattle.coercion_norm.specs.Composition.{final}
use Rattle.coercion_norm.specs.Nodes.{Node, IdNode, FailNode, MiddleNode, InjectNode, ProjectNode, IsTree, PartsBefore}
use Rattle.coercion_norm.specs.Nodes.{tree_of}
use Rattle.coercion_norm.proofs.Public.{tree_is}
use Rattle.coercion_compose.specs.declared.heads.Head.{Head}
use Rattle.coercion_compose.specs.declared.heads.Head.TheVariants.{Id, Fail, Middle, Inject, Project}
use Rattle.coercion_compose.specs.Heads.{HasHead}
use Rattle.coercion_compose.proofs.heads.final_part.Goals as goal

-- none of the other heads
abbrev IsOther : Head → Type 0
IsOther h =
    (h ≡ Id) ⊎ (((x : LabelId) × (h ≡ Fail x)) ⊎ (((k : MiddleKind) × (h ≡ Middle k))
    ⊎ ((x : CoercionId) × (y : TypeId) × (h ≡ Inject x y))))

-- any other coercion stays
stays : (nodes : List Node) → PartsBefore nodes → (place : ℕ) → place < length nodes → (h : Head)
    → HasHead nodes place h → IsOther h → IsTree nodes place (final (tree_of nodes place))
stays nodes first place within Id e other =
    let t = tree_is nodes place IdNode first e in record { within = within; is = t ∙ sym (ap final t) }
stays nodes first place within (Fail label) e other =
    let t = tree_is nodes place (FailNode label.0) first e in record { within = within; is = t ∙ sym (ap final t) }
stays nodes first place within (Middle kind) e other =
    let t = tree_is nodes place (MiddleNode kind e.0) first e.1 in record { within = within; is = t ∙ sym (ap final t) }
stays nodes first place within (Inject g kept) e other =
    let t = tree_is nodes place (InjectNode g.0 kept.0) first e in record { within = within; is = t ∙ sym (ap final t) }
stays nodes first place within (Project wanted label i) e (inl f) = absurd (cc f)
stays nodes first place within (Project wanted label i) e (inr (inl f)) = let g = f.1 in absurd (cc g)
stays nodes first place within (Project wanted label i) e (inr (inr (inl f))) = let g = f.1 in absurd (cc g)
stays nodes first place within (Project wanted label i) e (inr (inr (inr f))) = let g = f.2 in absurd (cc g)

pub returns-in-Project : goal.returns-in-Project
returns-in-Project c =
    subst (IsTree c.args.table.now.nodes c.id-id.result.0)
    (sym (ap final (tree_is c.args.table.now.nodes c.args.c.0
    (ProjectNode c.in-Project.field-0.0 c.in-Project.field-1.0 c.in-Project.field-2.0)
    c.len.ensures.nodes.ordered.before c.in-Project.ensures))) c.id-id.ensures

pub returns-in-Id : goal.returns-in-Id
returns-in-Id c =
    stays c.args.table.now.nodes c.len.ensures.nodes.ordered.before c.args.c.0 c.requires c.head_of.result
    c.head_of.ensures c.in-Id.is
