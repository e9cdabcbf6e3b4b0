-- What a memo keeps: a new one has no answer, and one more answer that is true leaves all true.
use Rattle.std.specs.Prelude.{◌≡◌, ℕ, Bool, true, false, List, Option, None, Some}
use Rattle.std.specs.BTreeMap.{BTreeMap, get, IsEmpty, IsUnchanged, Updates, is_at}
use Rattle.std.specs.Map.{lookup}
use Rattle.std.specs.FinMap.{IsAntisymmetric, slice_cmp-IsAntisymmetric}
use Rattle.std.specs.Ordering.{nat_cmp}
use Rattle.std.specs.declared.cmp.Ordering.{Ordering}
use Rattle.std.proofs.Common.{refl, sym, ap, subst, ◌∙◌, cond}
use Rattle.std.proofs.lemmas.Map.Lookups.{CmpEqualImpliesEq, exact_unsigned, exact_pairs}
use Rattle.std.proofs.lemmas.Map.Views.{tells_apart}
use Rattle.std.proofs.lemmas.Option.{same_Some}
use Rattle.object_tables.specs.Models.{ModelData}
use Rattle.qv_syntax.specs.declared.program.Program.{Program}
use Rattle.qvtr_semantics.specs.declared.datum.Datum.{Datum}
use Rattle.qvtr_semantics.specs.Templates.{Values}
use Rattle.qvtr_semantics.specs.Calls.{RelationCall}
use Rattle.template_match.specs.OrderLaws.{optional_exact}
use Rattle.relation_calls.specs.declared.memo.Answer.{Answer}
use Rattle.relation_calls.specs.declared.memo.Memo.{Memo}
use Rattle.relation_calls.specs.CallOrder.{roots_order, call_order}
use Rattle.relation_calls.specs.Calm.{IsHeightOf}
use Rattle.relation_calls.specs.Tables.{IsTable}
use Rattle.relation_calls.specs.Memos.{IsMatching, IsHolding, IsTold}

-- ---- calls that tie are one

same_roots : IsAntisymmetric roots_order
same_roots = slice_cmp-IsAntisymmetric optional_exact

pub one_call : CmpEqualImpliesEq call_order
one_call c d h = ap (λ (p : ℕ × Values). record { rel = p.0; roots = p.1 }) (exact_pairs nat_cmp roots_order exact_unsigned same_roots (c.rel, c.roots) (d.rel, d.roots) h)

-- ---- answers

no_answer : {X : Type 0} (one : X) → ◌≡◌ {A = Option X} None (Some one) → ⊥
no_answer one h = cc

module _ {K X : Type 0} (order : K → K → Ordering) (exact : CmpEqualImpliesEq order) (Is : K → X → Type 0) where
  -- what is true of each answer
  abbrev pub AllTold : BTreeMap K X → Type 0
  AllTold answers = (c : K) (one : X) → get order answers c ≡ Some one → Is c one

  none_told : (answers : BTreeMap K X) → IsEmpty answers → AllTold answers
  none_told answers empty c one at = absurd (no_answer one (sym (ap (λ es. lookup (is_at (order c)) es) empty) ∙ at))

  still_told : (old new : BTreeMap K X) → IsUnchanged old new → AllTold old → AllTold new
  still_told old new same told c one at = told c one (sym (ap (λ es. lookup (is_at (order c)) es) same) ∙ at)

  more_told : (old new : BTreeMap K X) (c : K) (one : X) → Updates order old new c (Some one) → AllTold old → Is c one → AllTold new
  more_told old new c one updates told is d two at = by (is_at (order c) d) refl (sym (updates.0 d) ∙ at)
    where
      by : (x : Bool) → is_at (order c) d ≡ x → cond x (Some one) (get order old d) ≡ Some two → Is d two
      by true same at = subst (λ e. Is e two) (tells_apart exact c d same) (subst (Is c) (same_Some one two at) is)
      by false same at = told d two at

module _ (program : Program) (models : List ModelData) where
  abbrev Matchings : BTreeMap RelationCall Bool → Type 0
  Matchings = AllTold call_order one_call (IsMatching program models)

  abbrev Holdings : BTreeMap RelationCall Answer → Type 0
  Holdings = AllTold call_order one_call (IsHolding program models)

  abbrev Heights : BTreeMap ℕ (Option ℕ) → Type 0
  Heights = AllTold nat_cmp exact_unsigned (IsHeightOf program)

  abbrev Tables : BTreeMap ℕ (Option (List (List Datum))) → Type 0
  Tables = AllTold nat_cmp exact_unsigned (IsTable program models)

  pub nothing_told : (memo : Memo) → IsEmpty memo.matching → IsEmpty memo.holding → IsEmpty memo.heights → IsEmpty memo.tables → IsTold program models memo
  nothing_told memo no_match no_hold no_height no_table =
      record {
        matching = none_told call_order one_call (IsMatching program models) memo.matching no_match;
        holding = none_told call_order one_call (IsHolding program models) memo.holding no_hold;
        heights = none_told nat_cmp exact_unsigned (IsHeightOf program) memo.heights no_height;
        tables = none_told nat_cmp exact_unsigned (IsTable program models) memo.tables no_table;
      }

  -- what differs in one part alone
  module _ (old new : Memo) (told : IsTold program models old) where
    all_told : Matchings new.matching → Holdings new.holding → Heights new.heights → Tables new.tables → IsTold program models new
    all_told matching holding heights tables = record { matching = matching; holding = holding; heights = heights; tables = tables }

    pub same_told : new.matching ≡ old.matching → new.holding ≡ old.holding → new.heights ≡ old.heights → new.tables ≡ old.tables → IsTold program models new
    same_told match hold height table =
        all_told (subst Matchings (sym match) told.matching) (subst Holdings (sym hold) told.holding) (subst Heights (sym height) told.heights) (subst Tables (sym table) told.tables)

    pub unchanged_matches : IsUnchanged old.matching new.matching → new.holding ≡ old.holding → new.heights ≡ old.heights → new.tables ≡ old.tables → IsTold program models new
    unchanged_matches same hold height table =
        all_told (still_told call_order one_call (IsMatching program models) old.matching new.matching same told.matching) (subst Holdings (sym hold) told.holding)
        (subst Heights (sym height) told.heights) (subst Tables (sym table) told.tables)

    pub more_matches : (c : RelationCall) (one : Bool) → Updates call_order old.matching new.matching c (Some one) → new.holding ≡ old.holding → new.heights ≡ old.heights → new.tables ≡ old.tables
        → IsMatching program models c one → IsTold program models new
    more_matches c one updates hold height table is =
        all_told (more_told call_order one_call (IsMatching program models) old.matching new.matching c one updates told.matching is) (subst Holdings (sym hold) told.holding)
        (subst Heights (sym height) told.heights) (subst Tables (sym table) told.tables)

    pub unchanged_holds : IsUnchanged old.holding new.holding → new.matching ≡ old.matching → new.heights ≡ old.heights → new.tables ≡ old.tables → IsTold program models new
    unchanged_holds same match height table =
        all_told (subst Matchings (sym match) told.matching) (still_told call_order one_call (IsHolding program models) old.holding new.holding same told.holding)
        (subst Heights (sym height) told.heights) (subst Tables (sym table) told.tables)

    pub more_holds : (c : RelationCall) (answer : Answer) → Updates call_order old.holding new.holding c (Some answer) → new.matching ≡ old.matching → new.heights ≡ old.heights → new.tables ≡ old.tables
        → IsHolding program models c answer → IsTold program models new
    more_holds c answer updates match height table is =
        all_told (subst Matchings (sym match) told.matching) (more_told call_order one_call (IsHolding program models) old.holding new.holding c answer updates told.holding is)
        (subst Heights (sym height) told.heights) (subst Tables (sym table) told.tables)

    pub unchanged_heights : IsUnchanged old.heights new.heights → new.matching ≡ old.matching → new.holding ≡ old.holding → new.tables ≡ old.tables → IsTold program models new
    unchanged_heights same match hold table =
        all_told (subst Matchings (sym match) told.matching) (subst Holdings (sym hold) told.holding)
        (still_told nat_cmp exact_unsigned (IsHeightOf program) old.heights new.heights same told.heights) (subst Tables (sym table) told.tables)

    pub more_heights : (number : ℕ) (height : Option ℕ) → Updates nat_cmp old.heights new.heights number (Some height) → new.matching ≡ old.matching → new.holding ≡ old.holding
        → new.tables ≡ old.tables → IsHeightOf program number height → IsTold program models new
    more_heights number height updates match hold table is =
        all_told (subst Matchings (sym match) told.matching) (subst Holdings (sym hold) told.holding)
        (more_told nat_cmp exact_unsigned (IsHeightOf program) old.heights new.heights number height updates told.heights is) (subst Tables (sym table) told.tables)

    pub unchanged_tables : IsUnchanged old.tables new.tables → new.matching ≡ old.matching → new.holding ≡ old.holding → new.heights ≡ old.heights → IsTold program models new
    unchanged_tables same match hold height =
        all_told (subst Matchings (sym match) told.matching) (subst Holdings (sym hold) told.holding) (subst Heights (sym height) told.heights)
        (still_told nat_cmp exact_unsigned (IsTable program models) old.tables new.tables same told.tables)

    pub more_tables : (number : ℕ) (table : Option (List (List Datum))) → Updates nat_cmp old.tables new.tables number (Some table) → new.matching ≡ old.matching → new.holding ≡ old.holding
        → new.heights ≡ old.heights → IsTable program models number table → IsTold program models new
    more_tables number table updates match hold height is =
        all_told (subst Matchings (sym match) told.matching) (subst Holdings (sym hold) told.holding) (subst Heights (sym height) told.heights)
        (more_told nat_cmp exact_unsigned (IsTable program models) old.tables new.tables number table updates told.tables is)
