-- The equations of a relation have no cycle (rule E11): each variable of an equation is known, so its equation names variables that are known before.
use Rattle.std.specs.Prelude.{◌≡◌, ◌⊎◌, ◌<◌, ℕ, zero, suc, true, List, [], ◌∷◌, Some, slice_get, Contains}
use Rattle.std.proofs.Common.{refl, sym, ap, subst, ◌∙◌, arith, inl, inr}
use Rattle.std.proofs.lemmas.Bool.{cases_lt, cases_eq}
use Rattle.mof_metamodel.specs.declared.desc.MetaDesc.{MetaDesc}
use Rattle.object_tables.specs.Models.{ModelData}
use Rattle.qv_syntax.specs.declared.typed.Typed.{Typed}
use Rattle.qv_syntax.specs.declared.program.Program.{Program}
use Rattle.qv_syntax.specs.declared.program.Rel.{Rel}
use Rattle.qv_syntax.specs.declared.program.Conj.TheVariants as conjuncts
use Rattle.qv_syntax.specs.Relations.{Says}
use Rattle.enforcement_rules.specs.KnownVariables.{NamesOf, IsKnown}
use Rattle.enforcement_rules.specs.Rules.{Breaks}
use Rattle.reading_laws.proofs.MeetingTypes.{equation_found}
use Rattle.entry_making.specs.Orders.{LeadsThrough, HasNoCycle}
use Rattle.entry_making.specs.Orderable.{WaitsForEquation}
use Rattle.entry_finding.specs.Premises.{CanBeEnforced}
use Rattle.entry_finding.proofs.RelationLaws.{meant}

-- ---- a cycle goes on from the next node

pub first_edge : (Edge : ℕ → ℕ → Type 0) (u w : ℕ) → LeadsThrough Edge u w → (v : ℕ) × Edge u v × ((v ≡ w) ⊎ LeadsThrough Edge v w)
first_edge Edge u w (LeadsThrough.direct _ _ edge) = (w, edge, inl refl)
first_edge Edge u w (LeadsThrough.more _ v _ edge rest) = (v, edge, inr rest)

one_more : (Edge : ℕ → ℕ → Type 0) (u v w : ℕ) → LeadsThrough Edge u v → Edge v w → LeadsThrough Edge u w
one_more Edge u v w (LeadsThrough.direct _ _ first) edge = LeadsThrough.more u v w first (LeadsThrough.direct v w edge)
one_more Edge u v w (LeadsThrough.more _ x _ first rest) edge = LeadsThrough.more u x w first (one_more Edge x v w rest edge)

pub next_cycle : (Edge : ℕ → ℕ → Type 0) (u : ℕ) → LeadsThrough Edge u u → (v : ℕ) × Edge u v × LeadsThrough Edge v v
next_cycle Edge u path = by (first_edge Edge u u path)
  where
    by : (v : ℕ) × Edge u v × ((v ≡ u) ⊎ LeadsThrough Edge v u) → (v : ℕ) × Edge u v × LeadsThrough Edge v v
    by (v, edge, inl same) = (v, edge, LeadsThrough.direct v v (subst (λ z. Edge z v) (sym same) edge))
    by (v, edge, inr rest) = (v, edge, one_more Edge v u v rest edge)

-- ---- a variable has one equation

place_of : {X : Type 0} (xs : List X) (x : X) → Contains xs x → (i : ℕ) × (slice_get xs i ≡ Some x)
place_of [] x (k, within, is) = absurd (omega (arith, within))
place_of (y ∷ ys) x (zero, within, is) = (0, ap (λ z. Some z) is)
place_of (y ∷ ys) x (suc k, within, is) = let (i, at) = place_of ys x (k, omega (arith, within), is) in (suc i, at)

one_equation : (v w : ℕ) (e f : Typed) → Some (conjuncts.Equation v e) ≡ Some (conjuncts.Equation w f) → (v ≡ w) × (e ≡ f)
one_equation v w e f h =
    let first : v ≡ w = cc in
    let second : e ≡ f = cc in (first, second)

module _ (metas : List MetaDesc) (program : Program) (models : List ModelData) (p : CanBeEnforced metas program models)
    (place : ℕ) (rel : Rel) (found : slice_get program.rels place ≡ Some rel) (direction : rel.in_direction ≡ true) where
  one_of_two : (i j v : ℕ) (x y : Typed) → i < j → slice_get rel.wheres i ≡ Some (conjuncts.Equation v x) → slice_get rel.wheres j ≡ Some (conjuncts.Equation v y) → ⊥
  one_of_two i j v x y less one other =
      ((meant metas program models p place rel found).wheres.are j v y other).3
      (record { earlier = i; before = less; c = conjuncts.Equation v x; found = one; e = x; says = Says.equation v x; other = ((meant metas program models p place rel found).wheres.are i v x one).2 })

  same_equation : (v q r : ℕ) (e f : Typed) → slice_get rel.wheres q ≡ Some (conjuncts.Equation v e) → slice_get rel.wheres r ≡ Some (conjuncts.Equation v f) → e ≡ f
  same_equation v q r e f at other = elim (cases_eq q r) [
    | inl same ↦ (one_equation v v e f (sym at ∙ ap (slice_get rel.wheres) same ∙ other)).1
    | inr ne ↦ elim (cases_lt q r) [
      | inl less ↦ absurd (one_of_two q r v e f less at other)
      | inr more ↦ absurd (one_of_two r q v f e (omega (arith, more, ne)) other at)
    ]
  ]

  -- ---- no cycle

  known_ends : (v : ℕ) → IsKnown program rel v → LeadsThrough (WaitsForEquation rel) v v → ⊥
  known_ends v (IsKnown.universal _ universal) path =
      let (w, edge, rest) = next_cycle (WaitsForEquation rel) v path in
      let (q, at) = equation_found rel.wheres v edge.e edge.equation in
      ((meant metas program models p place rel found).wheres.are q v edge.e at).1 universal
  known_ends v (IsKnown.determined _ x existential is_data there all) path =
      let (w, edge, rest) = next_cycle (WaitsForEquation rel) v path in
      let (q, at) = equation_found rel.wheres v edge.e edge.equation in
      let (r, placed) = place_of rel.wheres (conjuncts.Equation v x) there in
      let same : edge.e ≡ x = same_equation v q r edge.e x at placed in
      known_ends w (all w (subst (λ (y : Typed). NamesOf rel y w) same edge.names)) rest

  pub equations_end : HasNoCycle (WaitsForEquation rel)
  equations_end v path =
      let (w, edge, rest) = next_cycle (WaitsForEquation rel) v path in
      let (q, at) = equation_found rel.wheres v edge.e edge.equation in
      let asked = (meant metas program models p place rel found).wheres.are q v edge.e at in
      p.enforceable place 11 (record {
        rel = rel;
        found = found;
        in_direction = direction;
        breaks = Breaks.e11 refl (record { v = v; data_variable = asked.0; existential = asked.1; unknown = λ known. known_ends v known path });
      })
