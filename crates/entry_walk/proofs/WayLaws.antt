-- The calls behind a call that has been walked: they are lower, one behind the other, so a chain over them has no repeat.
use Rattle.std.specs.Prelude.{◌≡◌, ◌≢◌, ◌⊎◌, ◌<◌, ℕ, zero, suc, Option, None, Some, List, [], ◌∷◌, ◌++◌, length, slice_get, Contains, All, AllPairs, MatchOption}
use Rattle.std.specs.Option.{option_map_or}
use Rattle.std.proofs.Common.{refl, sym, ap, subst, ◌∙◌, inl, inr, arith, append_assoc, append-nil, get_or}
use Rattle.std.proofs.lemmas.List.{length-map}
use Rattle.std.proofs.lemmas.List.Elements.{All-append, All-push, Contains-append_cases}
use Rattle.std.proofs.lemmas.Option.{same_Some, none-some, slice_get_within}
use Rattle.mof_metamodel.proofs.Facts.{contains_at, contains_map, only_one}
use Rattle.object_tables.specs.Models.{ModelData}
use Rattle.qv_syntax.specs.declared.program.Program.{Program}
use Rattle.qvtr_semantics.specs.declared.limits.TheConstants.{MAX_CALLS}
use Rattle.repair_semantics.specs.declared.term.Term.{Term}
use Rattle.repair_semantics.specs.declared.entry.EntryName.{EntryName}
use Rattle.repair_semantics.specs.EntryChains.{CallsNext, EntryChain, DeepEntries}
use Rattle.entry_making.specs.declared.numbered_call.NumberedCall.{NumberedCall}
use Rattle.entry_making.specs.CallNumbers.{call_of}
use Rattle.entry_finding.specs.Found.{IsCallWithin}
use Rattle.entry_tops.specs.declared.tops.Tops.{Tops}
use Rattle.entry_walk.specs.declared.finished.Finished.{Finished}
use Rattle.entry_walk.specs.Walks.{Walked}
use Rattle.entry_walk.specs.Paths.{path_in, LeadsTo}
use Rattle.entry_walk.specs.FinishedTables.{IsFinishedAt, height_in, AreStepped, IsBehind, IsWay}
use Rattle.entry_walk.specs.Walking.{walked_in, walk_in, IsBefore, IsWalking, IsNext}
use Rattle.entry_walk.proofs.PlaceLaws.{match_weaker}
use Rattle.entry_walk.proofs.PathLaws.{path_push, path_append, distinct_more, chain_more}
use Rattle.reading_laws.proofs.MeetingValues.{one_of}

-- the height of the call at a place
pub height_at : (fs : List Finished) (n : ℕ) (f : Finished) → slice_get fs n ≡ Some f → height_in fs n ≡ f.height
height_at fs n f is = ap (λ o. option_map_or (λ (g : Finished). g.height) o 0) is

-- the call behind another
pub behind_none : (fs : List Finished) (n : ℕ) (f : Finished) → AreStepped fs → 0 < height_in fs n → slice_get fs n ≡ Some f → f.behind ≡ None → ⊥
behind_none fs n f stepped high at none =
    let zero_high : f.height ≡ 0 = subst (λ o. MatchOption o (f.height ≡ 0) (λ m. (g : Finished) × (slice_get fs m ≡ Some g) × (f.height ≡ suc g.height))) none (stepped n f at) in
    let h = height_at fs n f at in
    omega (arith, high, h, zero_high)

behind_some : (fs : List Finished) (n m : ℕ) (f : Finished) → AreStepped fs → slice_get fs n ≡ Some f → f.behind ≡ Some m → (g : Finished) × (slice_get fs m ≡ Some g) × (f.height ≡ suc g.height)
behind_some fs n m f stepped at some = subst (λ o. MatchOption o (f.height ≡ 0) (λ k. (g : Finished) × (slice_get fs k ≡ Some g) × (f.height ≡ suc g.height))) some (stepped n f at)

pub behind_lower : (fs : List Finished) (n m : ℕ) (f : Finished) → AreStepped fs → slice_get fs n ≡ Some f → f.behind ≡ Some m → height_in fs n ≡ suc (height_in fs m)
behind_lower fs n m f stepped at some = let g = behind_some fs n m f stepped at some in height_at fs n f at ∙ g.2 ∙ ap suc (sym (height_at fs m g.0 g.1))

pub behind_within : (fs : List Finished) (n m : ℕ) (f : Finished) → AreStepped fs → slice_get fs n ≡ Some f → f.behind ≡ Some m → m < length fs
behind_within fs n m f stepped at some = let g = behind_some fs n m f stepped at some in slice_get_within fs m g.0 g.1

-- a way with one step more
pub way_more : (fs : List Finished) (n : ℕ) (cs : List NumberedCall) (last next : ℕ) (c : NumberedCall) → IsWay fs n cs last → IsBehind fs last next → IsFinishedAt fs next c → IsWay fs n (cs ++ c ∷ []) next
way_more fs n [] last next c way behind at = (next, subst (λ k. IsBehind fs k next) (sym way) behind, at, refl)
way_more fs n (d ∷ cs) last next c way behind at = (way.0, way.1, way.2, way_more fs way.0 cs last next c way.3 behind at)

module _ (program : Program) (models : List ModelData) (tops : Tops) (terms : List Term) (fs : List Finished) (path : List NumberedCall) (w : IsWalking program models tops terms fs path) where
  pub stepped : AreStepped fs
  stepped n f is =
      match_weaker f.behind (f.height ≡ 0) (f.height ≡ 0) (IsBefore program models terms fs f) (λ m. (g : Finished) × (slice_get fs m ≡ Some g) × (f.height ≡ suc g.height))
      (λ e. e) (λ m is b. (b.by, b.at, b.height)) (w.finished f (contains_at fs n f is)).linked

  -- calls that have been walked are one where their calls are
  pub one_walked : (f g : Finished) → Contains fs f → Contains fs g → call_of terms f.call ≡ call_of terms g.call → walked_in terms f ≡ walked_in terms g
  one_walked f g p q same =
      one_of (λ (x y : Walked). x.call ≢ y.call) (walk_in terms fs) (walked_in terms f) (walked_in terms g) w.once (λ no. no same) (λ no. no (sym same))
      (contains_map (walked_in terms) fs f p) (contains_map (walked_in terms) fs g q)

  -- none of the calls is one that has been walked and is lower
  abbrev NoneLower : List EntryName → ℕ → Type 0
  NoneLower xs height = (g : Finished) → Contains fs g → g.height < height → Contains xs (call_of terms g.call) → ⊥

  record IsTold (xs : List EntryName) : Type 0 where
    chain : EntryChain program models xs
    distinct : AllPairs (λ c d. c ≢ d) xs

  before_of : (f : Finished) (o : Option ℕ) (m : ℕ) → o ≡ Some m → MatchOption o (f.height ≡ 0) (IsBefore program models terms fs f) → IsBefore program models terms fs f m
  before_of f None m is h = absurd (none-some m is)
  before_of f (Some k) m is h = subst (IsBefore program models terms fs f) (same_Some k m is) h

  way_told : (cs : List NumberedCall) (last : ℕ) (n : ℕ) (f : Finished) (before : List EntryName) → slice_get fs n ≡ Some f → IsTold (before ++ call_of terms f.call ∷ [])
      → NoneLower (before ++ call_of terms f.call ∷ []) f.height → IsWay fs n cs last → IsTold ((before ++ call_of terms f.call ∷ []) ++ path_in terms cs)
  way_told [] last n f before at told none way = subst IsTold (sym (append-nil (before ++ call_of terms f.call ∷ []))) told
  way_told (c ∷ cs) last n f before at told none (m, behind, (g, g_at, g_call), rest) =
      let f_same : behind.0 ≡ f = same_Some behind.0 f (sym behind.1 ∙ at) in
      let b : IsBefore program models terms fs f m = before_of f f.behind m (sym (ap (λ (x : Finished). x.behind) f_same) ∙ behind.2) (w.finished f (contains_at fs n f at)).linked in
      let by_same : b.by ≡ g = same_Some b.by g (sym b.at ∙ g_at) in
      let xs : List EntryName = before ++ call_of terms f.call ∷ [] in
      let next : CallsNext program models (call_of terms f.call) (call_of terms g.call) = subst (λ (x : Finished). CallsNext program models (call_of terms f.call) (call_of terms x.call)) by_same b.calls in
      let height : f.height ≡ suc g.height = b.height ∙ ap (λ (x : Finished). suc x.height) by_same in
      let in_fs : Contains fs g = contains_at fs m g g_at in
      let more : IsTold (xs ++ call_of terms g.call ∷ []) = record {
        chain = chain_more program models before (call_of terms f.call) (call_of terms g.call) told.chain next;
        distinct = distinct_more xs (call_of terms g.call) told.distinct (λ there. none g in_fs (omega (arith, height)) there);
      } in
      let told_all = way_told cs last m g xs g_at more (none_on xs g in_fs (λ h p less there. none h p (omega (arith, height, less)) there)) rest in
      subst IsTold (append_assoc xs (call_of terms g.call ∷ []) (path_in terms cs) ∙ ap (λ (d : NumberedCall). xs ++ call_of terms d ∷ path_in terms cs) g_call) told_all
    where
      none_on : (xs : List EntryName) (g : Finished) → Contains fs g → ((h : Finished) → Contains fs h → h.height < g.height → Contains xs (call_of terms h.call) → ⊥)
          → NoneLower (xs ++ call_of terms g.call ∷ []) g.height
      none_on xs g p old h q less there = by (Contains-append_cases xs (call_of terms g.call ∷ []) (call_of terms h.call) there)
        where
          by : Contains xs (call_of terms h.call) ⊎ Contains (call_of terms g.call ∷ []) (call_of terms h.call) → ⊥
          by (inl left) = old h q less left
          by (inr right) =
              let same = ap (λ (x : Walked). x.height) (one_walked g h p q (only_one (call_of terms g.call) (call_of terms h.call) right)) in
              absurd (omega (arith, same, less))

  -- a chain over a call that has been walked and calls behind it
  pub passed_deep : (c : NumberedCall) (n : ℕ) (f : Finished) (more : List NumberedCall) (last : ℕ) → slice_get fs n ≡ Some f → f.call ≡ c → IsNext program models terms path c → IsWay fs n more last
      → (chain : List NumberedCall) → chain ≡ (path ++ c ∷ []) ++ more → length chain ≡ suc MAX_CALLS → DeepEntries program models (path_in terms chain)
  passed_deep c n f more last at same next way chain is long = record {
    reached = told.chain;
    deep = record { calls = length-map chain (call_of terms) ∙ long; distinct = told.distinct };
  }
    where
      in_fs : Contains fs f
      in_fs = contains_at fs n f at

      off : Contains (path_in terms path) (call_of terms f.call) → ⊥
      off there = w.apart f in_fs there

      begun : IsTold (path_in terms path ++ call_of terms f.call ∷ [])
      begun = record {
        chain = subst (λ (d : NumberedCall). LeadsTo program models (path_in terms path) (call_of terms d)) (sym same) next.leads;
        distinct = distinct_more (path_in terms path) (call_of terms f.call) (w.path_is).distinct off;
      }

      none : NoneLower (path_in terms path ++ call_of terms f.call ∷ []) f.height
      none g p less there = by (Contains-append_cases (path_in terms path) (call_of terms f.call ∷ []) (call_of terms g.call) there)
        where
          by : Contains (path_in terms path) (call_of terms g.call) ⊎ Contains (call_of terms f.call ∷ []) (call_of terms g.call) → ⊥
          by (inl left) = w.apart g p left
          by (inr right) =
              let heights = ap (λ (x : Walked). x.height) (one_walked f g in_fs p (only_one (call_of terms f.call) (call_of terms g.call) right)) in
              absurd (omega (arith, heights, less))

      shown : path_in terms chain ≡ (path_in terms path ++ call_of terms f.call ∷ []) ++ path_in terms more
      shown =
          ap (path_in terms) is ∙ path_append terms (path ++ c ∷ []) more ∙ ap (λ xs. xs ++ path_in terms more) (path_push terms path c)
          ∙ ap (λ (d : NumberedCall). (path_in terms path ++ call_of terms d ∷ []) ++ path_in terms more) (sym same)

      told : IsTold (path_in terms chain)
      told = subst IsTold (sym shown) (way_told more last n f (path_in terms path) at begun none way)

  -- all its calls are by terms of the table
  way_within : (cs : List NumberedCall) (n last : ℕ) → IsWay fs n cs last → All (IsCallWithin terms) cs
  way_within [] n last way = λ k d less. absurd (omega (arith, less))
  way_within (c ∷ cs) n last (m, behind, (g, g_at, g_call), rest) =
      cons_all (IsCallWithin terms) c cs (subst (IsCallWithin terms) g_call (w.finished g (contains_at fs m g g_at)).call_within) (way_within cs m last rest)
    where
      cons_all : (P : NumberedCall → Type 0) (x : NumberedCall) (xs : List NumberedCall) → P x → All P xs → All P (x ∷ xs)
      cons_all P x xs here more = All-append P (x ∷ []) xs (λ k d less. by k d less) more
        where
          by : (k : ℕ) (d : NumberedCall) → k < length (x ∷ []) → P (get_or (x ∷ []) k d)
          by zero d less = here
          by (suc k) d less = absurd (omega (arith, less))

  pub passed_within : (c : NumberedCall) (n : ℕ) (more : List NumberedCall) (last : ℕ) → IsCallWithin terms c → IsWay fs n more last
      → (chain : List NumberedCall) → chain ≡ (path ++ c ∷ []) ++ more → All (IsCallWithin terms) chain
  passed_within c n more last within way chain is =
      subst (All (IsCallWithin terms)) (sym is)
      (All-append (IsCallWithin terms) (path ++ c ∷ []) more (All-push (IsCallWithin terms) path c w.path_within within) (way_within more n last way))
