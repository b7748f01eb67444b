-- Rows of whole objects: where they end, how they join, and that a range is one row at most.
use Rattle.std.proofs.Common.{◌≡◌, ℕ, ◌+◌, ◌*◌, ◌≤◌, List, [], ◌∷◌, ◌++◌, length, Some, refl, sym, ap, ◌∙◌}
use Rattle.std.proofs.Common.{subst, arith, true}
use Rattle.std.specs.Prelude.{◌==◌}
use Rattle.std.proofs.lemmas.Bool.{eqb-true}
use Rattle.object_layout.specs.declared.headers.Header.{Header}
use Rattle.object_layout.specs.declared.wholes.Area.{Area}
use Rattle.object_layout.specs.declared.kinds.Kind.TheVariants.{Proxy}
use Rattle.object_layout.specs.Kinds.{kind_of, allows_count}
use Rattle.object_layout.specs.Wholes.{Telling, IsWhole, Fills}
use Rattle.object_layout.specs.Reports.{is_proxy}

module _ (memory : Telling) (area : Area) where
  -- an object that ends before one end ends before a later one
  pub whole_sooner : (end later at : ℕ) (h : Header) → end ≤ later → IsWhole memory area end at h →
      IsWhole memory area later at h
  whole_sooner end later at h before w = record {
    header = w.header;
    kind = w.kind;
    kind_is = w.kind_is;
    count = w.count;
    fits = let f = w.fits in omega arith;
    words = w.words;
    height = w.height;
    stands = w.stands;
  }

  pub fills_sooner : (end later from : ℕ) (headers : List Header) (to : ℕ) → end ≤ later →
      Fills memory area end from headers to → Fills memory area later from headers to
  fills_sooner end later from [] to before f = f
  fills_sooner end later from (h ∷ rest) to before f =
      (whole_sooner end later from h before f.0, fills_sooner end later (from + (8 + 8 * h.count)) rest to before f.1)

  -- one row behind another
  pub fills_append : (end from mid to : ℕ) (headers more : List Header) → Fills memory area end from headers mid →
      Fills memory area end mid more to → Fills memory area end from (headers ++ more) to
  fills_append end from mid to [] more f g = subst (λ a. Fills memory area end a more to) (sym f) g
  fills_append end from mid to (h ∷ rest) more f g =
      (f.0, fills_append end (from + (8 + 8 * h.count)) mid to rest more f.1 g)

  -- one object more at the end
  pub fills_one_more : (end from at to : ℕ) (headers : List Header) (h : Header) → to ≡ at + (8 + 8 * h.count) →
      Fills memory area end from headers at → IsWhole memory area end at h →
      Fills memory area end from (headers ++ h ∷ []) to
  fills_one_more end from at to headers h e f w = fills_append end from at to headers (h ∷ []) f (w, sym e)

  -- an object takes at least eight bytes
  pub fills_few : (end from to : ℕ) (headers : List Header) → Fills memory area end from headers to →
      from + 8 * length headers ≤ to
  fills_few end from to [] f = let e : from ≡ to = f in omega arith
  fills_few end from to (h ∷ rest) f =
      let behind = fills_few end (from + (8 + 8 * h.count)) to rest f.1 in omega arith

  -- two rows of one range are the same objects
  pub a_range_is_one_row : (end other from to : ℕ) (headers others : List Header) →
      Fills memory area end from headers to →
      Fills memory area other from others to → headers ≡ others
  a_range_is_one_row end other from to [] [] f g = refl
  a_range_is_one_row end other from to [] (h ∷ rest) f g =
      let behind = fills_few other (from + (8 + 8 * h.count)) to rest g.1 in
      let e : from ≡ to = f in
      absurd (omega arith)
  a_range_is_one_row end other from to (h ∷ rest) [] f g =
      let behind = fills_few end (from + (8 + 8 * h.count)) to rest f.1 in
      let e : from ≡ to = g in
      absurd (omega arith)
  a_range_is_one_row end other from to (h ∷ rest) (k ∷ more) f g =
      let both : Some h ≡ Some k = sym f.0.header ∙ g.0.header in
      let same : h ≡ k = cc in
      let g' = subst (λ x. Fills memory area other (from + (8 + 8 * x.count)) more to) (sym same) g.1 in
      ap (λ x. x ∷ rest) same ∙ ap (λ xs. k ∷ xs)
      (a_range_is_one_row end other (from + (8 + 8 * h.count)) to rest more f.1 g')

  -- a proxy has two words after its header
  pub proxy_fits : (end at : ℕ) (h : Header) → IsWhole memory area end at h → is_proxy h ≡ true → at + 24 ≤ end
  proxy_fits end at h w e =
      let number : h.kind ≡ 2 = eqb-true h.kind 2 e in
      let kinds : Some Proxy ≡ Some w.kind = sym (ap kind_of number) ∙ w.kind_is in
      let is_proxy : Proxy ≡ w.kind = cc in
      let two : (h.count == 2) ≡ true = ap (λ k. allows_count k h.count) is_proxy ∙ w.count in
      let count : h.count ≡ 2 = eqb-true h.count 2 two in
      let fits = w.fits in
      omega arith
