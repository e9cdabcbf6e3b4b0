-- What is reached by each step of a walk.
use Rattle.std.specs.Prelude.{◌≡◌, ◌⊎◌, ◌<◌, ◌≤◌, ◌+◌, ℕ, suc, Bool, true, false, None, Some, List, [], ◌∷◌, ◌++◌, length, take, cond, nat_lt, slice_get, Contains, All, MatchOption}
use Rattle.std.proofs.Common.{refl, sym, ap, subst, ◌∙◌, inl, inr, arith, length-append, append_assoc, append-nil, get_or}
use Rattle.std.proofs.lemmas.Bool.{ltb-true, ltb-false}
use Rattle.std.proofs.Math.Seq.{take-length}
use Rattle.std.proofs.lemmas.List.{length-map, take_more}
use Rattle.std.proofs.lemmas.List.Elements.{All-push, All-contains, Contains-append_cases, Contains-append_left, Contains-append_right}
use Rattle.mof_metamodel.specs.declared.desc.MetaDesc.{MetaDesc}
use Rattle.mof_metamodel.proofs.Facts.{contains_first, contains_at, contains_map, nothing_in, only_one}
use Rattle.object_tables.specs.Models.{ModelData}
use Rattle.qv_syntax.specs.declared.program.Program.{Program}
use Rattle.qv_syntax.specs.WellFormed.{IsWellFormed}
use Rattle.qvtr_semantics.specs.declared.limits.TheConstants.{MAX_CALLS}
use Rattle.repair_semantics.specs.declared.term.Term.{Term}
use Rattle.repair_semantics.specs.EntryChains.{CyclicEntries, DeepEntries}
use Rattle.term_table.specs.TermTables.{IsGrown, AreDistinct}
use Rattle.entry_making.specs.declared.numbered_call.NumberedCall.{NumberedCall}
use Rattle.entry_making.specs.CallNumbers.{call_of}
use Rattle.entry_finding.specs.declared.found.Found.{Found}
use Rattle.entry_finding.specs.Found.{IsCallWithin}
use Rattle.entry_tops.specs.declared.tops.Tops.{Tops}
use Rattle.entry_walk.specs.declared.finished.Finished.{Finished}
use Rattle.entry_walk.specs.declared.ends.Height.{Height}
use Rattle.entry_walk.specs.declared.ends.WalkEnd.{WalkEnd}
use Rattle.entry_walk.specs.declared.ends.WalkEnd.TheVariants as ends
use Rattle.entry_walk.specs.declared.ends.Reached.{Reached}
use Rattle.entry_walk.specs.declared.ends.Reached.TheVariants as reached
use Rattle.entry_walk.specs.Paths.{path_in}
use Rattle.entry_walk.specs.FinishedTables.{IsFinishedAt, IsUnfinished, height_in, finished_by, higher}
use Rattle.entry_walk.specs.Explored.{IsExplored}
use Rattle.entry_walk.specs.Ends.{IsWalkEnd}
use Rattle.entry_walk.specs.Walking.{IsWalking, IsNext, IsNew, IsBlocked, HasPassed, IsFurther, IsReachedAt, IsHigh, HasReached}
use Rattle.entry_walk.proofs.PlaceLaws.{get_left, get_seam, last_same, match_weaker}
use Rattle.entry_walk.proofs.GrowthLaws.{explored_grown, next_grown, walking_grown}
use Rattle.entry_walk.proofs.PathLaws.{path_push, told_cycle, told_deep}
use Rattle.entry_walk.proofs.StepLaws.{off_path, unwalked, left}
use Rattle.entry_walk.proofs.WayLaws.{height_at, passed_deep, passed_within}

module _ (program : Program) (models : List ModelData) (tops : Tops) where
  -- ---- more has been walked

  pub further_none : (terms : List Term) (fs : List Finished) (path : List NumberedCall) → IsWalking program models tops terms fs path → IsFurther program models tops fs path terms fs path
  further_none terms fs path w = record { same_path = refl; more = []; grown = sym (append-nil fs); walking = w }

  pub further_on : (a b : List Term) (fs gs hs : List Finished) (path q r : List NumberedCall) → IsFurther program models tops fs path a gs q → IsFurther program models tops gs q b hs r
      → IsFurther program models tops fs path b hs r
  further_on a b fs gs hs path q r one other = record {
    same_path = other.same_path ∙ one.same_path;
    more = one.more ++ other.more;
    grown = other.grown ∙ ap (λ xs. xs ++ other.more) one.grown ∙ append_assoc fs one.more other.more;
    walking = other.walking;
  }

  -- ---- a call that has been walked

  pub passed_reached : (terms : List Term) (fs : List Finished) (path : List NumberedCall) (c : NumberedCall) (n : ℕ) (r : Reached) → IsWalking program models tops terms fs path → IsNext program models terms path c
      → IsFinishedAt fs n c → HasPassed fs path c n r → HasReached program models tops fs path c terms fs path r
  passed_reached terms fs path c n (reached.At m) w next (f, at, same) (is, room) = (
    further_none terms fs path w,
    record {
      by = f;
      at = ap (slice_get fs) is ∙ at;
      call = same;
      room = (let h = height_at fs n f at in omega (arith, room, h));
    },
  )
  passed_reached terms fs path c n (reached.Ended (ends.Deep chain)) w next (f, at, same) (more, last, is, way, long) = (
    passed_deep program models tops terms fs path w c n f more last at same next way chain is long,
    passed_within program models tops terms fs path w c n more last next.within way chain is,
  )
  passed_reached terms fs path c n (reached.Ended (ends.Whole es)) w next at h = absurd h
  passed_reached terms fs path c n (reached.Ended (ends.Cycle chain)) w next at h = absurd h
  passed_reached terms fs path c n (reached.Ended (ends.Unmet u)) w next at h = absurd h

  -- ---- a call that is new

  pub blocked_end : (terms : List Term) (fs : List Finished) (path : List NumberedCall) (c : NumberedCall) (end : WalkEnd) → AreDistinct terms → IsWalking program models tops terms fs path → IsNext program models terms path c
      → IsBlocked path c (Some end) → IsWalkEnd program models terms end
  blocked_end terms fs path c (ends.Cycle chain) apart w next (is, on) = (
    subst (CyclicEntries program models) (sym (ap (path_in terms) is ∙ path_push terms path c))
        (told_cycle program models (path_in terms path) (call_of terms c) w.path_is next.leads (contains_map (call_of terms) path c on)),
    subst (All (IsCallWithin terms)) (sym is) (All-push (IsCallWithin terms) path c w.path_within next.within),
  )
  blocked_end terms fs path c (ends.Deep chain) apart w next (is, off, long) = (
    subst (DeepEntries program models) (sym (ap (path_in terms) is ∙ path_push terms path c))
        (told_deep program models (path_in terms path) (call_of terms c) w.path_is (let l = length-map path (call_of terms) in omega (arith, l, long)) next.leads
        (off_path terms apart path c (λ d there. All-contains (IsCallWithin terms) path d w.path_within there) next.within off)),
    subst (All (IsCallWithin terms)) (sym is) (All-push (IsCallWithin terms) path c w.path_within next.within),
  )
  blocked_end terms fs path c (ends.Whole es) apart w next h = absurd h
  blocked_end terms fs path c (ends.Unmet u) apart w next h = absurd h

  pub is_new : (terms : List Term) (fs : List Finished) (path : List NumberedCall) (c : NumberedCall) → AreDistinct terms → IsWalking program models tops terms fs path → IsCallWithin terms c
      → ¬ Contains path c → IsUnfinished fs c → IsNew terms fs path c
  is_new terms fs path c apart w within off none = record {
    off = off_path terms apart path c (λ d there. All-contains (IsCallWithin terms) path d w.path_within there) within off;
    unwalked = unwalked terms apart fs c (λ f there. (w.finished f there).call_within) within none;
  }

  -- ---- a call is finished

  -- behind a call that is on the path it hasn't been walked
  pub still_new : (terms : List Term) (fs : List Finished) (path : List NumberedCall) (c : NumberedCall) → IsWalking program models tops terms fs (path ++ c ∷ []) → IsUnfinished fs c
  still_new terms fs path c w n (f, at, same) =
      w.apart f (contains_at fs n f at)
      (subst (λ p. Contains p (call_of terms f.call)) (sym (path_push terms path c))
      (subst (λ (d : NumberedCall). Contains (path_in terms path ++ call_of terms c ∷ []) (call_of terms d)) (sym same)
      (Contains-append_right (path_in terms path) (call_of terms c ∷ []) (call_of terms c) (contains_first (call_of terms c) []))))

  pub left_reached : (metas : List MetaDesc) → IsWellFormed metas program → (a b : List Term) → IsGrown a b → (fs gs hs : List Finished) (path q r : List NumberedCall) (c d : NumberedCall) (found : Found) (h : Height) (n : ℕ)
      → IsWalking program models tops a fs path → IsNext program models a path c → IsExplored program models a tops c found → IsFurther program models tops fs (path ++ c ∷ []) b gs q → IsHigh gs q found.calls h
      → q ≡ r ++ d ∷ [] → hs ≡ gs ++ finished_by d found h ∷ [] → n ≡ length gs → IsFurther program models tops fs path b hs r × IsReachedAt hs r c n
  left_reached metas formed a b g fs gs hs path q r c d found h n w next x further high split added place = (
    record {
      same_path = sym both.0;
      more = further.more ++ finished_by c found h ∷ [];
      grown = all_is ∙ ap (λ xs. xs ++ finished_by c found h ∷ []) further.grown ∙ append_assoc fs further.more (finished_by c found h ∷ []);
      walking = subst (λ p. IsWalking program models tops b hs p) both.0 (subst (λ xs. IsWalking program models tops b xs path) (sym all_is) walking);
    },
    record {
      by = finished_by c found h;
      at = ap (slice_get hs) place ∙ ap (λ xs. slice_get xs (length gs)) all_is ∙ get_seam gs [] (finished_by c found h);
      call = refl;
      room = (let l = length-append path (c ∷ []) in let s = ap (λ (xs : List NumberedCall). length xs) further.same_path in let t = ap (λ (xs : List NumberedCall). length xs) both.0 in let m = high.room in omega (arith, l, s, t, m));
    },
  )
    where
      both : (path ≡ r) × (c ≡ d)
      both = last_same path r c d (sym further.same_path ∙ split)

      all_is : hs ≡ gs ++ finished_by c found h ∷ []
      all_is = added ∙ ap (λ (x : NumberedCall). gs ++ finished_by x found h ∷ []) (sym both.1)

      before : IsWalking program models tops b fs path
      before = walking_grown program models a b g tops fs path w

      walking : IsWalking program models tops b (gs ++ finished_by c found h ∷ []) path
      walking =
          left metas program formed models tops b gs path c found h (subst (IsWalking program models tops b gs) further.same_path further.walking) before.path_is before.path_within
          (next_grown program models a b g path c w.path_within next) (explored_grown program models a b g tops c found w.tops_are next.within x) (subst (λ p. IsHigh gs p found.calls h) further.same_path high)

-- ---- heights

pub high_none : (fs : List Finished) (path : List NumberedCall) → length path ≤ MAX_CALLS → IsHigh fs path [] (record { height = 0; behind = None })
high_none fs path short = record { each = λ c there. absurd (nothing_in c there); behind = refl; room = omega (arith, short) }

module _ (fs gs more : List Finished) (path q : List NumberedCall) (grown : gs ≡ fs ++ more) (same : q ≡ path) (calls : List NumberedCall) (c : NumberedCall) (h : Height) (n : ℕ) (high : IsHigh fs path calls h)
    (at : IsReachedAt gs q c n) where
  among_more : (f : Finished) → Contains fs f → Contains gs f
  among_more f there = subst (λ xs. Contains xs f) (sym grown) (Contains-append_left fs more f there)

  high_kept : at.by.height < h.height → IsHigh gs q (calls ++ c ∷ []) h
  high_kept less = record { each = each; behind = behind; room = (let l = ap (λ (xs : List NumberedCall). length xs) same in let r = high.room in omega (arith, l, r)) }
    where
      each : (d : NumberedCall) → Contains (calls ++ c ∷ []) d → (f : Finished) × Contains gs f × (f.call ≡ d) × (f.height < h.height)
      each d there = by (Contains-append_cases calls (c ∷ []) d there)
        where
          by : Contains calls d ⊎ Contains (c ∷ []) d → (f : Finished) × Contains gs f × (f.call ≡ d) × (f.height < h.height)
          by (inl old) = let f = high.each d old in (f.0, among_more f.0 f.1, f.2, f.3)
          by (inr here) = (at.by, contains_at gs n at.by at.at, at.call ∙ only_one c d here, less)

      behind : MatchOption h.behind (h.height ≡ 0) (λ k. (f : Finished) × (slice_get gs k ≡ Some f) × Contains (calls ++ c ∷ []) f.call × (h.height ≡ suc f.height))
      behind =
          match_weaker h.behind (h.height ≡ 0) (h.height ≡ 0) (λ k. (f : Finished) × (slice_get fs k ≡ Some f) × Contains calls f.call × (h.height ≡ suc f.height))
          (λ k. (f : Finished) × (slice_get gs k ≡ Some f) × Contains (calls ++ c ∷ []) f.call × (h.height ≡ suc f.height)) (λ e. e)
          (λ k is b. (b.0, ap (λ xs. slice_get xs k) grown ∙ get_left fs more k b.0 b.1, Contains-append_left calls (c ∷ []) (b.0).call b.2, b.3)) high.behind

  high_new : h.height ≤ at.by.height → IsHigh gs q (calls ++ c ∷ []) (record { height = suc at.by.height; behind = Some n })
  high_new more_high = record {
    each = each;
    behind = (at.by, at.at, subst (Contains (calls ++ c ∷ [])) (sym at.call) (Contains-append_right calls (c ∷ []) c (contains_first c [])), refl);
    room = at.room;
  }
    where
      each : (d : NumberedCall) → Contains (calls ++ c ∷ []) d → (f : Finished) × Contains gs f × (f.call ≡ d) × (f.height < suc at.by.height)
      each d there = by (Contains-append_cases calls (c ∷ []) d there)
        where
          by : Contains calls d ⊎ Contains (c ∷ []) d → (f : Finished) × Contains gs f × (f.call ≡ d) × (f.height < suc at.by.height)
          by (inl old) = let f = high.each d old in let l = f.3 in (f.0, among_more f.0 f.1, f.2, omega (arith, l, more_high))
          by (inr here) = (at.by, contains_at gs n at.by at.at, at.call ∙ only_one c d here, omega arith)

  pub high_step : IsHigh gs q (calls ++ c ∷ []) (higher gs h n)
  high_step = by (nat_lt (height_in gs n) h.height) refl
    where
      height : height_in gs n ≡ at.by.height
      height = height_at gs n at.by at.at

      by : (b : Bool) → nat_lt (height_in gs n) h.height ≡ b → IsHigh gs q (calls ++ c ∷ []) (cond b h (record { height = suc (height_in gs n); behind = Some n }))
      by true is = high_kept (subst (λ m. m < h.height) height (ltb-true (height_in gs n) h.height is))
      by false is =
          subst (λ m. IsHigh gs q (calls ++ c ∷ []) (record { height = suc m; behind = Some n })) (sym height) (high_new (subst (λ m. h.height ≤ m) height (ltb-false (height_in gs n) h.height is)))

-- ---- a step of a loop over calls

pub here_in : (calls : List NumberedCall) (i : ℕ) (c : NumberedCall) → i < length calls → c ≡ get_or calls i c → Contains calls c
here_in calls i c less is = (i, less, sym is)

-- the path has stayed as the table has grown
pub next_later : (program : Program) (models : List ModelData) (a b : List Term) → IsGrown a b → (path q : List NumberedCall) (c : NumberedCall) → q ≡ path → All (IsCallWithin a) path → IsNext program models a path c
    → IsNext program models b q c
next_later program models a b g path q c same within next = subst (λ p. IsNext program models b p c) (sym same) (next_grown program models a b g path c within next)

pub high_on : (program : Program) (models : List ModelData) (tops : Tops) (b : List Term) (fs gs : List Finished) (path q : List NumberedCall) (calls : List NumberedCall) (i : ℕ) (c : NumberedCall) (h k : Height) (n : ℕ)
    → i < length calls → c ≡ get_or calls i c → IsHigh fs path (take i calls) h → IsFurther program models tops fs path b gs q → IsReachedAt gs q c n → k ≡ higher gs h n → IsHigh gs q (take (i + 1) calls) k
high_on program models tops b fs gs path q calls i c h k n less is high further at raised =
    subst (IsHigh gs q (take (i + 1) calls)) (sym raised)
    (subst (λ cs. IsHigh gs q cs (higher gs h n)) (sym (take_more calls i c less ∙ ap (λ d. take i calls ++ d ∷ []) (sym is)))
    (high_step fs gs further.more path q further.grown further.same_path (take i calls) c h n high at))

pub high_all : (fs : List Finished) (path : List NumberedCall) (calls : List NumberedCall) (i : ℕ) (h : Height) → i ≡ length calls → IsHigh fs path (take i calls) h → IsHigh fs path calls h
high_all fs path calls i h is high = subst (λ cs. IsHigh fs path cs h) (ap (λ k. take k calls) is ∙ take-length calls) high

-- the path has as many calls as its terms
pub path_short : (program : Program) (models : List ModelData) (tops : Tops) (terms : List Term) (fs : List Finished) (path : List NumberedCall) → IsWalking program models tops terms fs path → length path ≤ MAX_CALLS
path_short program models tops terms fs path w = let l = length-map path (call_of terms) in let s = (w.path_is).short in omega (arith, l, s)

pub same_long : (q path : List NumberedCall) → q ≡ path → length q ≡ length path
same_long q path is = ap (λ (xs : List NumberedCall). length xs) is
