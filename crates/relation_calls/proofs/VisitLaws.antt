-- Parts of a visit, one after another: the calls of a clause, partners and bindings; and all that is come to by a visit.
use Rattle.std.specs.Prelude.{◌≡◌, ◌⊎◌, ◌↔◌, Bool, true, false, ◌&&◌, ◌||◌, List, [], ◌∷◌, ◌++◌, Option, None, Some, slice_get, Contains, IsTrue, IfErr}
use Rattle.std.specs.declared.result.Result.{Result}
use Rattle.std.specs.declared.result.Result.TheVariants.{Err}
use Rattle.std.proofs.Common.{refl, sym, subst, ◌∙◌, arith, inl, inr}
use Rattle.std.proofs.lemmas.Bool.{and_parts, and_from}
use Rattle.std.proofs.lemmas.Option.{same_Some}
use Rattle.std.proofs.lemmas.List.Elements.{Contains-append_left, Contains-append_right, Contains-append_cases}
use Rattle.object_tables.specs.Models.{ModelData}
use Rattle.qv_syntax.specs.declared.program.Program.{Program}
use Rattle.qv_syntax.specs.declared.program.Rel.{Rel}
use Rattle.qvtr_semantics.specs.Templates.{Values}
use Rattle.qvtr_semantics.specs.Bindings.{Source, Target}
use Rattle.qvtr_semantics.specs.Calls.{RelationCall, Asked, AllAsked, Match, calls_of}
use Rattle.qvtr_semantics.specs.Chains.{AsksWhen, CallsWhere}
use Rattle.relation_calls.specs.declared.error.CallError.{CallError}
use Rattle.relation_calls.specs.declared.error.CallError.TheVariants as errors
use Rattle.relation_calls.specs.Seen.{Seen, SeenBehind, AreClean}
use Rattle.relation_calls.specs.Faults.{IsFault}
use Rattle.relation_calls.specs.Visits.{IsSourceBinding}
use Rattle.template_match.specs.declared.side.Side.TheVariants as sides
use Rattle.template_match.proofs.SideLaws.{meets_parts, valued}
use Rattle.relation_calls.proofs.ListLaws.{before_or_last}
use Rattle.mof_metamodel.proofs.Facts.{only_one}

abbrev pub Chains : Type 1
Chains = List RelationCall → Type 0

-- a fault by a part is one by the whole
pub fault_in : (S T : Chains) → ((chain : List RelationCall) → S chain → T chain) → (e : CallError) → IsFault S e → IsFault T e
fault_in S T into (errors.Cycle names) f = (into _ f.0, f.1)
fault_in S T into (errors.Deep names) f = (into _ f.0, f.1)
fault_in S T into errors.NoMemory f = tt

pub clean_from : (S T : Chains) → ((chain : List RelationCall) → T chain → S chain) → AreClean S → AreClean T
clean_from S T from clean chain t bad = clean chain (from chain t) bad

-- ---- calls of a clause

pub asked_more : (asked : Asked) (cs : List (Option RelationCall)) (c : Option RelationCall) → AllAsked asked (cs ++ c ∷ []) ↔ (AllAsked asked cs × AllAsked asked (c ∷ []))
asked_more asked [] c = (λ h. (tt, h), λ h. h.1)
asked_more asked (None ∷ cs) c = (λ h. absurd h, λ h. absurd h.0)
asked_more asked (Some d ∷ cs) c =
    let more = asked_more asked cs c in
    (λ h. ((h.0, (more.0 h.1).0), (more.0 h.1).1), λ h. (h.0.0, more.1 (h.0.1, h.1)))

-- the chains that are come to by one of the calls
abbrev pub ByCalls : (RelationCall → Chains) → List (Option RelationCall) → Chains
ByCalls D cs chain = (d : RelationCall) × Contains cs (Some d) × D d chain

pub clean_calls : (D : RelationCall → Chains) (cs : List (Option RelationCall)) (c : Option RelationCall) → AreClean (ByCalls D cs) → AreClean (ByCalls D (c ∷ [])) → AreClean (ByCalls D (cs ++ c ∷ []))
clean_calls D cs c before last chain (d, has, seen) bad = elim (Contains-append_cases cs (c ∷ []) (Some d) has) [
  | inl h ↦ before chain (d, h, seen) bad
  | inr h ↦ last chain (d, h, seen) bad
]

pub clean_no_calls : (D : RelationCall → Chains) → AreClean (ByCalls D [])
clean_no_calls D chain (d, (k, within, is), seen) bad = absurd (omega (arith, within))

-- of one call
pub by_one : (D : RelationCall → Chains) (c : RelationCall) (chain : List RelationCall) → ByCalls D (Some c ∷ []) chain ↔ D c chain
by_one D c chain = (
  λ h. subst (λ d. D d chain) (sym (same_Some c h.0 (only_one (Some c) (Some h.0) h.1))) h.2,
  λ seen. (c, (0, omega arith, refl), seen),
)

pub by_none : (D : RelationCall → Chains) → AreClean (ByCalls D (None ∷ []))
by_none D chain (d, has, seen) bad = let never : None ≡ Some d = only_one None (Some d) has in absurd (cc)

pub asked_one : (asked : Asked) (c : RelationCall) → AllAsked asked (Some c ∷ []) ↔ asked c
asked_one asked c = (λ h. h.0, λ h. (h, tt))

-- ---- partners and bindings

abbrev pub ByValues : (Values → Chains) → List Values → Chains
ByValues D bs chain = (b : Values) × Contains bs b × D b chain

pub clean_values : (D : Values → Chains) (bs : List Values) (b : Values) → AreClean (ByValues D bs) → AreClean (D b) → AreClean (ByValues D (bs ++ b ∷ []))
clean_values D bs b before last chain (c, has, seen) bad = elim (before_or_last bs b c has) [
  | inl h ↦ before chain (c, h, seen) bad
  | inr same ↦ last chain (subst (λ x. D x chain) (sym same) seen) bad
]

pub clean_no_values : (D : Values → Chains) → AreClean (ByValues D [])
clean_no_values D chain (b, (k, within, is), seen) bad = absurd (omega (arith, within))

-- ---- what is true of one of them

pub any_none : (P : Values → Type 0) → IsTrue false ↔ ((g : Values) × Contains [] g × P g)
any_none P = (λ h. absurd (cc), λ h. let (g, (k, within, is), p) = h in absurd (omega (arith, within)))

pub any_more : (P : Values → Type 0) (gs : List Values) (g : Values) (any one : Bool) → (IsTrue any ↔ ((x : Values) × Contains gs x × P x)) → (IsTrue one ↔ P g)
    → IsTrue (any || one) ↔ ((x : Values) × Contains (gs ++ g ∷ []) x × P x)
any_more P gs g true one before last = (
  λ h. let (x, has, p) = before.0 refl in (x, Contains-append_left gs (g ∷ []) x has, p),
  λ h. refl,
)
any_more P gs g false one before last = (
  λ h. (g, Contains-append_right gs (g ∷ []) g (0, omega arith, refl), last.0 h),
  λ h. let (x, has, p) = h in elim (before_or_last gs g x has) [
    | inl earlier ↦ absurd (never (before.1 (x, earlier, p)))
    | inr same ↦ last.1 (subst P (sym same) p)
  ],
)
  where
    never : IsTrue false → ⊥
    never e = cc

pub all_more : (asked : Asked) (cs : List (Option RelationCall)) (c : Option RelationCall) (all one : Bool) → (IsTrue all ↔ AllAsked asked cs) → (IsTrue one ↔ AllAsked asked (c ∷ []))
    → IsTrue (all && one) ↔ AllAsked asked (cs ++ c ∷ [])
all_more asked cs c all one before last =
    let more = asked_more asked cs c in (
      λ h. let (a, o) = and_parts all one h in more.1 (before.0 a, last.0 o),
      λ h. let (a, o) = more.0 h in and_from all one (before.1 a) (last.1 o),
    )

-- ---- all that is come to by a call

module _ (program : Program) (models : List ModelData) (upto : List RelationCall) (rel : Rel) where
  abbrev ByWhen : RelationCall → Chains
  ByWhen d = Seen program models [] d

  abbrev ByWhere : RelationCall → Chains
  ByWhere d = SeenBehind program models upto d

  abbrev pub ByTargets : Values → Chains
  ByTargets b chain = (g : Values) × Target program models rel b g × ByCalls ByWhere (calls_of program models g rel.wheres) chain

  abbrev pub ByBinding : Values → Chains
  ByBinding b chain = ByCalls ByWhen (calls_of program models b rel.whens) chain ⊎ (AllAsked (Match program models) (calls_of program models b rel.whens) × ByTargets b chain)

  called_by : (c d : RelationCall) (chain : List RelationCall) → slice_get program.rels c.rel ≡ Some rel → CallsWhere program models c d → ByWhere d chain
      → (b : Values) × Source program models rel c.roots b × ByBinding b chain
  called_by c d chain is calls seen =
      let same : calls.rel ≡ rel = same_Some calls.rel rel (sym calls.is ∙ is) in (
        calls.binding,
        subst (λ (r : Rel). Source program models r c.roots calls.binding) same calls.source.source,
        inr (
          subst (λ (r : Rel). AllAsked (Match program models) (calls_of program models calls.binding r.whens)) same calls.source.whens,
          (
            calls.partner,
            subst (λ (r : Rel). Target program models r calls.binding calls.partner) same calls.target,
            (d, subst (λ (r : Rel). Contains (calls_of program models calls.partner r.wheres) (Some d)) same calls.calls, seen),
          ),
        ),
      )

  asked_by : (c d : RelationCall) (chain : List RelationCall) → slice_get program.rels c.rel ≡ Some rel → AsksWhen program models c d → Seen program models [] d chain
      → (b : Values) × Source program models rel c.roots b × ByBinding b chain
  asked_by c d chain is asks seen =
      let same : asks.rel ≡ rel = same_Some asks.rel rel (sym asks.is ∙ is) in (
        asks.binding,
        subst (λ (r : Rel). Source program models r c.roots asks.binding) same asks.source,
        inl (d, subst (λ (r : Rel). Contains (calls_of program models asks.binding r.whens) (Some d)) same asks.asks, seen),
      )

  -- what is seen from a call is seen by one of the bindings
  pub split : (c : RelationCall) (chain : List RelationCall) → slice_get program.rels c.rel ≡ Some rel → Seen program models upto c chain
      → (b : Values) × Source program models rel c.roots b × ByBinding b chain
  split c _ is (Seen.next _ _ d calls) = called_by c d (upto ++ d ∷ []) is calls (inl refl)
  split c chain is (Seen.by_where _ _ d _ calls seen) = called_by c d chain is calls (inr seen)
  split c chain is (Seen.by_when _ _ d _ asks seen) = asked_by c d chain is asks seen

  -- and the other way round
  pub join : (c : RelationCall) (chain : List RelationCall) (b : Values) → slice_get program.rels c.rel ≡ Some rel → Source program models rel c.roots b → ByBinding b chain
      → Seen program models upto c chain
  join c chain b is source (inl (d, asks, seen)) =
      Seen.by_when upto c d chain (record { rel = rel; is = is; binding = b; source = source; asks = asks }) seen
  join c chain b is source (inr (whens, (g, target, (d, has, inl last)))) =
      subst (Seen program models upto c) (sym last)
      (Seen.next upto c d (record { rel = rel; is = is; binding = b; source = record { source = source; whens = whens }; partner = g; target = target; calls = has }))
  join c chain b is source (inr (whens, (g, target, (d, has, inr seen)))) =
      Seen.by_where upto c d chain (record { rel = rel; is = is; binding = b; source = record { source = source; whens = whens }; partner = g; target = target; calls = has }) seen

-- ---- bindings of the source

-- a binding that meets the source has values of all universal variables
pub source_binding : (program : Program) (models : List ModelData) (rel : Rel) (roots b : Values) → Source program models rel roots b → IsSourceBinding rel b
source_binding program models rel roots b source =
    record {
      places = source.places;
      universals = λ v has. let val = valued program models rel rel.universal b v (meets_parts sides.Source rel.universal program models rel b source.meets).have has in (val.value, val.at);
    }

-- the error with which a `?` ends
pub ends_with : {T : Type 0} (S : CallError → Type 0) (result : Result T CallError) (e y : CallError) → result ≡ Err y → y ≡ e → S e → IfErr result S
ends_with S result e y is same s = subst (λ r. IfErr r S) (sym is) (subst S (sym same) s)
