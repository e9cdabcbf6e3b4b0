-- Where no chain that begins with a call is longer than h, more calls in where clauses within one another change nothing.
use Rattle.std.specs.Prelude.{◌≡◌, ◌⊎◌, ◌≤◌, ◌↔◌, ℕ, zero, suc, max, List, [], ◌∷◌, Option, None, Some, slice_get, Contains}
use Rattle.std.proofs.Common.{refl, sym, subst, ◌∙◌, arith, inl, inr}
use Rattle.std.proofs.lemmas.Bool.Decides.{leb_tells}
use Rattle.std.proofs.lemmas.Option.{same_Some}
use Rattle.object_tables.specs.Models.{ModelData}
use Rattle.qv_syntax.specs.declared.program.Program.{Program}
use Rattle.qv_syntax.specs.declared.program.Rel.{Rel}
use Rattle.qvtr_semantics.specs.Templates.{Values}
use Rattle.qvtr_semantics.specs.Bindings.{Target}
use Rattle.qvtr_semantics.specs.Calls.{RelationCall, Asked, AllAsked, Of, SourceMatches, TargetHolds, HoldsFor, Match, calls_of}
use Rattle.qvtr_semantics.specs.Chains.{CallsWhere}
use Rattle.relation_calls.specs.Founds.{AreEnough}
use Rattle.relation_calls.specs.Frames.{CallsOfBindings}
use Rattle.relation_calls.specs.Memos.{IsHeight}
use Rattle.relation_calls.specs.Owing.{IsCommonHeight}

-- what is asked of each of the calls may be asked otherwise
asked_otherwise : (asked other : Asked) (cs : List (Option RelationCall)) → ((d : RelationCall) → Contains cs (Some d) → asked d → other d) → AllAsked asked cs → AllAsked other cs
asked_otherwise asked other [] each h = tt
asked_otherwise asked other (None ∷ cs) each h = h
asked_otherwise asked other (Some d ∷ cs) each h = (
  each d (0, omega arith, refl) h.0,
  asked_otherwise asked other cs (λ e has. let (k, within, is) = has in each e (suc k, omega (arith, within), is)) h.1,
)

module _ (program : Program) (models : List ModelData) where
  -- the chains that begin with a call that is made are shorter
  lower : (c d : RelationCall) (h : ℕ) → CallsWhere program models c d → IsHeight program models c (suc h) → IsHeight program models d h
  lower c d h calls high [] of = absurd of
  lower c d h calls high (first ∷ more) of =
      let long = high (c ∷ d ∷ more) (refl, (calls, of.1)) in omega (arith, long)

  -- a height is at least 1
  some_height : (c : RelationCall) (h : ℕ) → IsHeight program models c h → 1 ≤ h
  some_height c h high = high (c ∷ []) (refl, tt)

  of_found : (o : Option Rel) (P Q : Rel → Type 0) → ((rel : Rel) → o ≡ Some rel → P rel → Q rel) → Of o P → Of o Q
  of_found None P Q f h = h
  of_found (Some rel) P Q f h = f rel refl h

  abbrev HoldsIn : ℕ → RelationCall → Rel → Type 0
  HoldsIn n c rel = (b : Values) → SourceMatches (Match program models) program models rel c.roots b → (g : Values) × TargetHolds (HoldsFor program models n) program models rel b g

  both : (h n : ℕ) (c : RelationCall) → IsHeight program models c h → h ≤ n → (HoldsFor program models h c → HoldsFor program models n c) × (HoldsFor program models n c → HoldsFor program models h c)
  both zero n c high few = let some = some_height c zero high in absurd (omega (arith, some))
  both (suc h) zero c high few = absurd (omega (arith, few))
  both (suc h) (suc n) c high few =
      let there : (d : RelationCall) → CallsWhere program models c d → HoldsFor program models h d → HoldsFor program models n d = λ d calls. (both h n d (lower c d h calls high) (omega (arith, few))).0 in
      let back : (d : RelationCall) → CallsWhere program models c d → HoldsFor program models n d → HoldsFor program models h d = λ d calls. (both h n d (lower c d h calls high) (omega (arith, few))).1 in
      (one_way h n c there, one_way n h c back)
    where
      one_way : (h n : ℕ) (c : RelationCall) → ((d : RelationCall) → CallsWhere program models c d → HoldsFor program models h d → HoldsFor program models n d)
          → Of (slice_get program.rels c.rel) (HoldsIn h c) → Of (slice_get program.rels c.rel) (HoldsIn n c)
      one_way h n c each =
          of_found (slice_get program.rels c.rel) (HoldsIn h c) (HoldsIn n c)
          (λ rel found holds b m.
          let (g, t) = holds b m in (
            g,
            record {
              target = t.target;
              wheres = asked_otherwise (HoldsFor program models h) (HoldsFor program models n) (calls_of program models g rel.wheres)
                  (λ d has. each d (record { rel = rel; is = found; binding = b; source = m; partner = g; target = t.target; calls = has })) t.wheres;
            },
          ))

  -- with as many calls as the longest chain has, and with any more
  pub height_enough : (h n : ℕ) (c : RelationCall) → IsHeight program models c h → h ≤ n → HoldsFor program models h c ↔ HoldsFor program models n c
  height_enough h n c high few = both h n c high few

  -- two bounds of a call's chains are enough alike
  pub heights_alike : (h n : ℕ) (c : RelationCall) → IsHeight program models c h → IsHeight program models c n → HoldsFor program models h c ↔ HoldsFor program models n c
  heights_alike h n c high other = elim (leb_tells h n) [
    | inl less ↦ height_enough h n c high less.1
    | inr more ↦ let back = height_enough n h c other (omega (arith, more.1)) in (back.1, back.0)
  ]

  -- ---- heights of several calls

  pub no_calls_height : (S : RelationCall → Type 0) → ((d : RelationCall) → S d → ⊥) → IsCommonHeight program models S 0
  no_calls_height S none = record { few = omega arith; each = λ d has. absurd (none d has) }

  pub height_from : (S T : RelationCall → Type 0) → ((d : RelationCall) → T d → S d) → (n : ℕ) → IsCommonHeight program models S n → IsCommonHeight program models T n
  height_from S T from n high = record { few = high.few; each = λ d has. high.each d (from d has) }

  higher : (m n : ℕ) (d : RelationCall) → m ≤ n → IsHeight program models d m → IsHeight program models d n
  higher m n d few high chain of = let long = high chain of in omega (arith, few, long)

  -- of those of two kinds it is the greater one
  pub height_with : (S T U : RelationCall → Type 0) → ((d : RelationCall) → U d → S d ⊎ T d) → (m n : ℕ) → IsCommonHeight program models S m → IsCommonHeight program models T n
      → IsCommonHeight program models U (max m n)
  height_with S T U either m n one other = record { few = let a = one.few in let b = other.few in omega (arith, a, b); each = λ d has. at d (either d has) }
    where
      at : (d : RelationCall) → S d ⊎ T d → IsHeight program models d (max m n)
      at d (inl s) = higher m (max m n) d (omega arith) (one.each d s)
      at d (inr t) = higher n (max m n) d (omega arith) (other.each d t)

  abbrev Makes : RelationCall → RelationCall → Values → Values → Rel → Type 0
  Makes c d b g rel = SourceMatches (Match program models) program models rel c.roots b × Target program models rel b g × Contains (calls_of program models g rel.wheres) (Some d)

  module _ (rel : Rel) (c : RelationCall) (bs : List Values) (h : ℕ) (is : slice_get program.rels c.rel ≡ Some rel) (enough : AreEnough program models rel c.roots bs)
      (high : IsCommonHeight program models (CallsOfBindings program models rel bs) h) where
    made_height : (d : RelationCall) → CallsWhere program models c d → IsHeight program models d h
    made_height d m =
        let made : Makes c d m.binding m.partner rel = subst (Makes c d m.binding m.partner) (same_Some m.rel rel (sym m.is ∙ is)) (m.source, m.target, m.calls) in
        let (source, target, calls) = made in
        let among : Contains bs m.binding = enough.matched m.binding source.source source.whens in
        high.each d (m.binding, among, (source.whens, m.partner, target, calls))

    -- a call is one higher than those that partners of its bindings make
    pub call_height : IsHeight program models c (suc h)
    call_height [] of = absurd of
    call_height (first ∷ []) of = omega arith
    call_height (first ∷ d ∷ more) of =
        let long = made_height d of.1.0 (d ∷ more) (refl, of.1.1) in
        omega (arith, long)
