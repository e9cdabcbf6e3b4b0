-- What is come to by first steps is what is reached: the chains from a call that is to hold, from one that is to match, and from a top relation.
use Rattle.std.specs.Prelude.{◌≡◌, ◌⊎◌, ◌↔◌, List, [], ◌∷◌, ◌++◌}
use Rattle.std.proofs.Common.{refl, sym, ap, subst, inl, inr}
use Rattle.object_tables.specs.Models.{ModelData}
use Rattle.qv_syntax.specs.declared.program.Program.{Program}
use Rattle.qvtr_semantics.specs.Calls.{RelationCall}
use Rattle.qvtr_semantics.specs.Chains.{Role, as_top, as_match, as_called, ReachedFrom, AsksWhen, CallsWhere, BeginsFrom, GoesOn, ChainFrom, IsOnlyCall, MatchChain, ChainOf, HoldsChain}
use Rattle.relation_calls.specs.Seen.{Seen, SeenBehind, TopChain}

pub shift : {X : Type 0} (xs : List X) (x : X) (ys : List X) → (xs ++ x ∷ []) ++ ys ≡ xs ++ x ∷ ys
shift [] x ys = refl
shift (z ∷ xs) x ys = ap (λ zs. z ∷ zs) (shift xs x ys)

-- the chain with which a search begins
abbrev pub begun : Role → RelationCall → List RelationCall
begun as_called c = c ∷ []
begun as_match c = []
begun as_top c = []

-- the chain behind a call that was come to so
abbrev IsFor : Role → List RelationCall → Type 0
IsFor as_called upto = Unit {0}
IsFor as_match upto = upto ≡ []
IsFor as_top upto = upto ≡ []

begun_fits : (role : Role) (c : RelationCall) → IsFor role (begun role c)
begun_fits as_called c = tt
begun_fits as_match c = refl
begun_fits as_top c = refl

module _ (program : Program) (models : List ModelData) where
  -- ---- what is reached is seen

  goes_seen : (upto : List RelationCall) (c d : RelationCall) (more : List RelationCall) → CallsWhere program models c d → GoesOn program models d more
      → Seen program models upto c (upto ++ d ∷ more)
  goes_seen upto c d [] calls goes = Seen.next upto c d calls
  goes_seen upto c d (e ∷ more) calls goes =
      Seen.by_where upto c d (upto ++ d ∷ e ∷ more) calls
      (subst (Seen program models (upto ++ d ∷ []) d) (shift upto d (e ∷ more)) (goes_seen (upto ++ d ∷ []) d e more goes.0 goes.1))

  -- what is seen from a call that is reached is seen from where the search began
  record Lifted (Starts : Role → RelationCall → Type 0) (role : Role) (d : RelationCall) : Type 0 where
    first_role : Role
    first : RelationCall
    starts : Starts first_role first
    upto : List RelationCall
    fits : IsFor role upto
    lifts : (chain : List RelationCall) → Seen program models upto d chain → Seen program models (begun first_role first) first chain

  lifted : (Starts : Role → RelationCall → Type 0) (role : Role) (d : RelationCall) → ReachedFrom program models Starts role d → Lifted Starts role d
  lifted Starts role d (ReachedFrom.start _ _ s) =
      record { first_role = role; first = d; starts = s; upto = begun role d; fits = begun_fits role d; lifts = λ chain seen. seen }
  lifted Starts _ d (ReachedFrom.by_when role from _ reached asks) =
      let l = lifted Starts role from reached in
      record { first_role = l.first_role; first = l.first; starts = l.starts; upto = []; fits = refl; lifts = λ chain seen. l.lifts chain (Seen.by_when l.upto from d chain asks seen) }
  lifted Starts _ d (ReachedFrom.by_where role from _ reached calls) =
      let l = lifted Starts role from reached in
      record { first_role = l.first_role; first = l.first; starts = l.starts; upto = l.upto ++ d ∷ []; fits = tt; lifts = λ chain seen. l.lifts chain (Seen.by_where l.upto from d chain calls seen) }

  -- a chain that is seen from one of the calls with which a search begins
  pub record SeenFrom (Starts : Role → RelationCall → Type 0) (chain : List RelationCall) : Type 0 where
    pub role : Role
    pub first : RelationCall
    pub starts : Starts role first
    pub seen : Seen program models (begun role first) first chain

  from_lifted : (Starts : Role → RelationCall → Type 0) (role : Role) (from first : RelationCall) (more : List RelationCall) (l : Lifted Starts role from) → l.upto ≡ []
      → CallsWhere program models from first → GoesOn program models first more → SeenFrom Starts (first ∷ more)
  from_lifted Starts role from first more l none calls goes =
      record {
        role = l.first_role;
        first = l.first;
        starts = l.starts;
        seen = l.lifts (first ∷ more) (subst (λ u. Seen program models u from (first ∷ more)) (sym none) (goes_seen [] from first more calls goes));
      }

  pub chain_seen : (Starts : Role → RelationCall → Type 0) (chain : List RelationCall) → ChainFrom program models Starts chain → SeenFrom Starts chain
  chain_seen Starts [] h = absurd h
  chain_seen Starts (first ∷ more) h = by h.0.begins
    where
      by : ReachedFrom program models Starts as_top h.0.from ⊎ ReachedFrom program models Starts as_match h.0.from → SeenFrom Starts (first ∷ more)
      by (inl top) = let l = lifted Starts as_top h.0.from top in from_lifted Starts as_top h.0.from first more l l.fits h.0.calls h.1
      by (inr asked) = let l = lifted Starts as_match h.0.from asked in from_lifted Starts as_match h.0.from first more l l.fits h.0.calls h.1

  -- ---- what is seen is reached

  module _ (Starts : Role → RelationCall → Type 0) (P : List RelationCall → Type 0)
      (closed : (first : RelationCall) (more : List RelationCall) → BeginsFrom program models Starts first → GoesOn program models first more → P (first ∷ more)) where
    -- a place of the search: a top relation or a match, with no chain behind it, or a call with which a chain ends
    abbrev AtBegin : List RelationCall → RelationCall → Type 0
    AtBegin upto c = (upto ≡ []) × (ReachedFrom program models Starts as_top c ⊎ ReachedFrom program models Starts as_match c)

    abbrev Within : List RelationCall → RelationCall → Type 0
    Within upto c = ReachedFrom program models Starts as_called c × ((more : List RelationCall) → GoesOn program models c more → P (upto ++ more))

    abbrev At : List RelationCall → RelationCall → Type 0
    At upto c = AtBegin upto c ⊎ Within upto c

    goes_further : (upto : List RelationCall) (c d : RelationCall) → At upto c → CallsWhere program models c d → (more : List RelationCall) → GoesOn program models d more → P (upto ++ d ∷ more)
    goes_further upto c d (inl (none, begins)) calls more goes = subst (λ u. P (u ++ d ∷ more)) (sym none) (closed d more (record { from = c; begins = begins; calls = calls }) goes)
    goes_further upto c d (inr (reached, within)) calls more goes = within (d ∷ more) (calls, goes)

    reached_at : (upto : List RelationCall) (c : RelationCall) → At upto c → (role : Role) × ReachedFrom program models Starts role c
    reached_at upto c (inl (none, inl top)) = (as_top, top)
    reached_at upto c (inl (none, inr asked)) = (as_match, asked)
    reached_at upto c (inr (reached, within)) = (as_called, reached)

    at_where : (upto : List RelationCall) (c d : RelationCall) → At upto c → CallsWhere program models c d → At (upto ++ d ∷ []) d
    at_where upto c d at calls =
        let r = reached_at upto c at in
        inr (ReachedFrom.by_where r.0 c d r.1 calls, λ more goes. subst P (sym (shift upto d more)) (goes_further upto c d at calls more goes))

    at_when : (upto : List RelationCall) (c d : RelationCall) → At upto c → AsksWhen program models c d → At [] d
    at_when upto c d at asks = let r = reached_at upto c at in inl (refl, inr (ReachedFrom.by_when r.0 c d r.1 asks))

    pub seen_reached : (upto : List RelationCall) (c : RelationCall) (chain : List RelationCall) → At upto c → Seen program models upto c chain → P chain
    seen_reached upto c _ at (Seen.next _ _ d calls) = goes_further upto c d at calls [] tt
    seen_reached upto c chain at (Seen.by_where _ _ d _ calls seen) = seen_reached (upto ++ d ∷ []) d chain (at_where upto c d at calls) seen
    seen_reached upto c chain at (Seen.by_when _ _ d _ asks seen) = seen_reached [] d chain (at_when upto c d at asks) seen

  -- ---- from one call

  only_match : (c : RelationCall) (chain : List RelationCall) (s : SeenFrom (IsOnlyCall as_match c) chain) → Seen program models [] c chain
  only_match c chain s = by s.role s.first s.starts s.seen
    where
      by : (role : Role) (first : RelationCall) → IsOnlyCall as_match c role first → Seen program models (begun role first) first chain → Seen program models [] c chain
      by _ _ IsOnlyCall.only seen = seen

  only_top : (c : RelationCall) (chain : List RelationCall) (s : SeenFrom (IsOnlyCall as_top c) chain) → Seen program models [] c chain
  only_top c chain s = by s.role s.first s.starts s.seen
    where
      by : (role : Role) (first : RelationCall) → IsOnlyCall as_top c role first → Seen program models (begun role first) first chain → Seen program models [] c chain
      by _ _ IsOnlyCall.only seen = seen

  only_called : (c : RelationCall) (chain : List RelationCall) (s : SeenFrom (IsOnlyCall as_called c) chain) → Seen program models (c ∷ []) c chain
  only_called c chain s = by s.role s.first s.starts s.seen
    where
      by : (role : Role) (first : RelationCall) → IsOnlyCall as_called c role first → Seen program models (begun role first) first chain → Seen program models (c ∷ []) c chain
      by _ _ IsOnlyCall.only seen = seen

  -- the chains that a match reaches
  pub match_chains : (c : RelationCall) (chain : List RelationCall) → MatchChain program models c chain ↔ Seen program models [] c chain
  match_chains c chain = (
    λ h. only_match c chain (chain_seen (IsOnlyCall as_match c) chain h),
    seen_reached (IsOnlyCall as_match c) (MatchChain program models c) (λ first more begins goes. (begins, goes)) [] c chain
        (inl (refl, inr (ReachedFrom.start as_match c IsOnlyCall.only))),
  )

  -- those that a top relation reaches
  pub top_chains : (c : RelationCall) (chain : List RelationCall) → TopChain program models c chain ↔ Seen program models [] c chain
  top_chains c chain = (
    λ h. only_top c chain (chain_seen (IsOnlyCall as_top c) chain h),
    seen_reached (IsOnlyCall as_top c) (TopChain program models c) (λ first more begins goes. (begins, goes)) [] c chain
        (inl (refl, inl (ReachedFrom.start as_top c IsOnlyCall.only))),
  )

  begins_seen : (c : RelationCall) (first : RelationCall) (more : List RelationCall) → first ≡ c → GoesOn program models c more → SeenBehind program models [] c (first ∷ more)
  begins_seen c first [] same goes = inl (ap (λ x. x ∷ []) same)
  begins_seen c first (d ∷ more) same goes =
      inr (subst (λ x. Seen program models (c ∷ []) c (x ∷ d ∷ more)) (sym same) (goes_seen (c ∷ []) c d more goes.0 goes.1))

  holds_seen : (c : RelationCall) (chain : List RelationCall) → HoldsChain program models c chain → SeenBehind program models [] c chain
  holds_seen c [] (inl h) = absurd h
  holds_seen c (first ∷ more) (inl h) = begins_seen c first more h.0 h.1
  holds_seen c chain (inr h) = inr (only_called c chain (chain_seen (IsOnlyCall as_called c) chain h))

  seen_holds : (c : RelationCall) (chain : List RelationCall) → SeenBehind program models [] c chain → HoldsChain program models c chain
  seen_holds c chain (inl is) = inl (subst (λ x. ChainOf program models c x) (sym is) (refl, tt))
  seen_holds c chain (inr seen) =
      seen_reached (IsOnlyCall as_called c) (HoldsChain program models c) (λ first more begins goes. inr (begins, goes)) (c ∷ []) c chain
      (inr (ReachedFrom.start as_called c IsOnlyCall.only, λ more goes. inl (refl, goes))) seen

  -- those that a call in a where clause reaches
  pub holds_chains : (c : RelationCall) (chain : List RelationCall) → HoldsChain program models c chain ↔ SeenBehind program models [] c chain
  holds_chains c chain = (holds_seen c chain, seen_holds c chain)
