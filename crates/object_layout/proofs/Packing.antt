-- The word of a header has the header's fields.
use Rattle.std.proofs.Common.{◌≡◌, ℕ, ◌/◌, ◌%◌, ◌^◌, ◌<◌, Option, Some, None, refl, sym, ap, ◌∙◌, arith, subst}
use Rattle.std.proofs.Common.{Bool, true, false}
use Rattle.std.specs.Prelude.{◌==◌, ◌&&◌, ◌↔◌, is_some, IsSome, if◌then◌else◌}
use Rattle.object_layout.specs.declared.headers.Header.{Header}
use Rattle.object_layout.specs.declared.kinds.Kind.{Kind}
use Rattle.object_layout.specs.Kinds.{kind_of}
use Rattle.object_layout.specs.Headers.{packed, fields, unpacked}

module _ (h : Header) (kind : h.kind < 2 ^ 8) (height : h.height < 2 ^ 16) (count : h.count < 2 ^ 32) where
  kind_field : packed h % 2 ^ 8 ≡ h.kind
  kind_field = omega arith

  gap_field : packed h / 2 ^ 8 % 2 ^ 8 ≡ 0
  gap_field = omega arith

  height_field : packed h / 2 ^ 16 % 2 ^ 16 ≡ h.height
  height_field = omega arith

  count_field : packed h / 2 ^ 32 ≡ h.count
  count_field = omega arith

  fields_packed : fields (packed h) ≡ h
  fields_packed =
      let one : h ≡ record { kind = h.kind; height = h.height; count = h.count } = refl in
      cc (kind_field, height_field, count_field)

  chosen : (o : Option Kind) (b : Bool) → b ≡ true →
      ((if is_some o && b then Some h else None) ≡ Some h) ↔ IsSome o
  chosen (Some k) true e = (λ p. refl, λ p. refl)
  chosen None true e = (λ p. cc, λ p. cc)
  chosen o false e = cc

  pub unpacks : (unpacked (packed h) ≡ Some h) ↔ IsSome (kind_of h.kind)
  unpacks =
      let gap : (packed h / 2 ^ 8 % 2 ^ 8 == 0) ≡ true = ap (λ n. n == 0) gap_field in
      let by_kind = chosen (kind_of h.kind) true refl in
      let same : unpacked (packed h) ≡ (if is_some (kind_of h.kind) && true then Some h else None) =
      ap (λ k. if is_some (kind_of k) && (packed h / 2 ^ 8 % 2 ^ 8 == 0) then Some (fields (packed h)) else None)
      kind_field ∙ ap (λ b. if is_some (kind_of h.kind) && b then Some (fields (packed h)) else None) gap ∙
      ap (λ f. if is_some (kind_of h.kind) && true then Some f else None) fields_packed in
      (λ p. by_kind.0 (sym same ∙ p), λ p. same ∙ by_kind.1 p)

  -- the same of a word that is put together in another way
  pub unpacks_as : (word : ℕ) → packed h ≡ word → (unpacked word ≡ Some h) ↔ IsSome (kind_of h.kind)
  unpacks_as word e = subst (λ w. (unpacked w ≡ Some h) ↔ IsSome (kind_of h.kind)) e unpacks
