-- From what stands at a place, and may follow there, to the fault that is told.
use Rattle.std.proofs.Common.{◌≡◌, ℕ, zero, suc, ◌+◌, ◌≤◌, ◌<◌, Bool, true, false, List, [], ◌∷◌, ◌++◌, length, take, drop, refl, sym, ◌∙◌, ap, subst, arith, Option, Some, None, inl, inr, true≢false, append_assoc}
use Rattle.std.proofs.lemmas.Bool.{and_parts, eqb-true}
use Rattle.std.proofs.lemmas.List.{length-take-le, take-append-drop, drop-drop}
use Rattle.std.specs.Prelude.{◌==◌, ◌&&◌}
use Rattle.xmi_text.specs.States.{cleared}
use Rattle.xmi_text.specs.Automaton.{fault_by, fault_at}
use Rattle.xmi_text.specs.Reading.{state_from, state_of, fault_of, end_fault_of}
use Rattle.xmi_text.specs.Markup.{begins, Markup}
use Rattle.xmi_text.specs.Faults.{May, Stands, IsMarkup, IsFaultAt, IsBefore}
use Rattle.xmi_text.specs.Trees.{Tree}
use Rattle.xmi_text.specs.declared.error.TextFault.{TextFault}
use Rattle.xmi_text.specs.declared.error.TextKind.{TextKind}
use Rattle.xmi_text.specs.declared.utf_eight.Partial.{Partial}
use Rattle.xmi_text.specs.declared.state.State.{State}
use Rattle.xmi_text.specs.declared.state.Mode.TheVariants as modes
use Rattle.xmi_text.specs.declared.state.Ready.{Ready}
use Rattle.xmi_text.specs.declared.state.Ready.TheVariants as ready
use Rattle.xmi_text.proofs.completion.Sound.{IsSound, sound_of}
use Rattle.xmi_text.proofs.reading.Reached.{state_of-append}
use Rattle.xmi_text.proofs.reading.Staying.{fault_stays, fault_ends, idle_of}
use Rattle.xmi_text.proofs.completion.Ending.{Dead, open_or_dead}
use Rattle.xmi_text.proofs.completion.Places.{no_more}
use Rattle.xmi_text.proofs.forward.Spelled.{markup_spelled}
use Rattle.xmi_text.proofs.backward.Whole.{goes_on_begins}
use Rattle.xmi_text.proofs.faults.Lettered.{lettered_wanted}
use Rattle.xmi_text.proofs.faults.Prefixes.{IsNeverMissed, IsOutsideDocuments, begins_goes_on}
use Rattle.xmi_text.proofs.faults.Probes.{here, Ends, Marks, markup_here}

-- ---- what stands at a place

pub begins_split : (part xs : List ℕ) → begins part xs ≡ true → (rest : List ℕ) × (xs ≡ part ++ rest)
begins_split [] xs e = (xs, refl)
begins_split (p ∷ part) [] e = absurd (true≢false (sym e))
begins_split (p ∷ part) (x ∷ xs) e =
    let q = and_parts (p == x) (begins part xs) e in
    let r = begins_split part xs q.1 in
    (r.0, ap (λ (ys : List ℕ). x ∷ ys) r.1 ∙ ap (λ (y : ℕ). y ∷ (part ++ r.0)) (sym (eqb-true p x q.0)))

-- one part behind another
begins_join : (part more xs : List ℕ) → begins part xs ≡ true → begins more (drop (length part) xs) ≡ true → begins (part ++ more) xs ≡ true
begins_join [] more [] e f = f
begins_join [] more (x ∷ xs) e f = f
begins_join (p ∷ part) more [] e f = absurd (true≢false (sym e))
begins_join (p ∷ part) more (x ∷ xs) e f =
    let q = and_parts (p == x) (begins part xs) e in
    ap (λ (b : Bool). b && begins (part ++ more) xs) q.0 ∙ begins_join part more xs q.1 f

pub stands_join : (bytes : List ℕ) (n : ℕ) (part more : List ℕ) → Stands bytes n part → Stands bytes (n + length part) more → Stands bytes n (part ++ more)
stands_join bytes n part more e f = begins_join part more (drop n bytes) e (ap (begins more) (drop-drop (length part) n bytes) ∙ f)

pub stands_within : (bytes : List ℕ) (n b : ℕ) (part : List ℕ) → Stands bytes n (b ∷ part) → n < length bytes
stands_within [] zero b part e = absurd (true≢false (sym e))
stands_within [] (suc n) b part e = absurd (true≢false (sym e))
stands_within (x ∷ bytes) zero b part e = omega arith
stands_within (x ∷ bytes) (suc n) b part e = omega (arith, stands_within bytes n b part e)

-- ---- the state at a place

-- behind the first bytes, and some that follow
abbrev pub state_at : List ℕ → ℕ → State
state_at bytes n = state_of (take n bytes)

pub state_behind : (bytes : List ℕ) (n : ℕ) (part : List ℕ) → n ≤ length bytes → state_of (take n bytes ++ part) ≡ state_from n (state_at bytes n) part
state_behind bytes n part h = state_of-append (take n bytes) part ∙ ap (λ (k : ℕ). state_from k (state_at bytes n) part) (length-take-le n bytes h)

pub may_go : (bytes : List ℕ) (n : ℕ) (part : List ℕ) → n ≤ length bytes → May bytes n part → Ends (state_at bytes n) n part → ⊥
may_go bytes n part h m d = no_more (take n bytes ++ part) (subst Dead (sym (state_behind bytes n part h)) d) (begins_goes_on (take n bytes ++ part) m)

pub may_not : (bytes : List ℕ) (n : ℕ) (part : List ℕ) → n ≤ length bytes → ¬ May bytes n part → Ends (state_at bytes n) n part
unfolding end_fault_of
may_not bytes n part h m =
    let probed : List ℕ = take n bytes ++ part in
    let s : State = state_of probed in
    elim (open_or_dead s s.mode s.partial (length probed) refl (sound_of probed).cut) [ inl o ↦ absurd (m (goes_on_begins probed o)) | inr d ↦ subst Dead (state_behind bytes n part h) d ]

-- ---- the fault that is told

pub told : (bytes : List ℕ) (n : ℕ) (part : List ℕ) (f : TextFault) → n ≤ length bytes → Stands bytes n part → (state_from n (state_at bytes n) part).mode ≡ modes.Failed f → end_fault_of bytes ≡ Some f
unfolding fault_of
told bytes n part f h e m =
    let front : List ℕ = take n bytes in
    let r = begins_split part (drop n bytes) e in
    let all : (front ++ part) ++ r.0 ≡ bytes = append_assoc front part r.0 ∙ ap (λ (xs : List ℕ). front ++ xs) (sym r.1) ∙ take-append-drop n bytes in
    let first : fault_of (front ++ part) ≡ Some f = ap (λ (s : State). fault_by s.mode) (state_behind bytes n part h) ∙ ap fault_by m in
    let last : fault_of bytes ≡ Some f = subst (λ (xs : List ℕ). fault_of xs ≡ Some f) all (fault_stays (front ++ part) r.0 f first) in
    fault_ends bytes f last

-- a fault of the kind at the place leads to one that is told, there or before
pub record IsTold (bytes : List ℕ) (kind : TextKind) (n : ℕ) : Type 0 where
  pub fault : TextFault
  pub is : end_fault_of bytes ≡ Some fault
  pub first : IsBefore fault.at fault.kind n kind

same_some : (f g : TextFault) → Some f ≡ Some g → g ≡ f
same_some f g e = cc

no_some : (f : TextFault) → Some f ≡ None → ⊥
no_some f e = cc

pub told_first : (bytes : List ℕ) (kind : TextKind) (f : TextFault) (n : ℕ) → end_fault_of bytes ≡ Some f → IsTold bytes kind n → IsBefore f.at f.kind n kind
told_first bytes kind f n e t = subst (λ (g : TextFault). IsBefore g.at g.kind n kind) (same_some f t.fault (sym e ∙ t.is)) t.first

pub none_told : (bytes : List ℕ) (kind : TextKind) (tree : Tree) (n : ℕ) → Markup bytes tree → IsTold bytes kind n → ⊥
none_told bytes kind tree n m t = no_some t.fault (sym t.is ∙ (markup_spelled bytes tree m).whole)

pub told_never_missed : (kind : TextKind) → ((bytes : List ℕ) (n : ℕ) → IsFaultAt bytes kind n → IsTold bytes kind n) → IsNeverMissed kind
told_never_missed kind tells bytes f n e b = told_first bytes kind f n e (tells bytes n b)

pub told_outside : (kind : TextKind) → ((bytes : List ℕ) (n : ℕ) → IsFaultAt bytes kind n → IsTold bytes kind n) → IsOutsideDocuments kind
told_outside kind tells bytes tree n m b = none_told bytes kind tree n m (tells bytes n b)

-- a fault of this very kind, here
pub told_here : (bytes : List ℕ) (kind : TextKind) (n place : ℕ) → place ≡ n → end_fault_of bytes ≡ Some (fault_at kind place) → IsTold bytes kind n
told_here bytes kind n place e f = record { fault = fault_at kind place; is = f; first = inr (e, omega arith) }

-- ---- where markup begins

-- behind its `<`
abbrev pub less_at : State → ℕ → State
less_at s n = record s { mode = modes.Less n; partial = None; ready = ready.Nothing; returned = false }

pub here_same : (s : State) → s.ready ≡ ready.Nothing → here s s.mode s.partial ≡ s
here_same s e = ap (λ (r : Ready). record s { ready = r }) (sym e)

pub behind_less : (bytes : List ℕ) (n : ℕ) (part : List ℕ) → n ≤ length bytes → IsMarkup bytes n → state_from n (state_at bytes n) (60 ∷ part) ≡ state_from (n + 1) (less_at (state_at bytes n) n) part
behind_less bytes n part h m =
    let s : State = state_at bytes n in
    let same = here_same s (idle_of (take n bytes)) in
    let k : Marks s s.mode s.partial n =
    markup_here s s.mode s.partial n (subst IsSound (sym same) (sound_of (take n bytes))) (lettered_wanted (take n bytes))
    (λ d. may_go bytes n (60 ∷ 33 ∷ 45 ∷ 45 ∷ []) h m.comment (subst (λ (t : State). Ends t n (60 ∷ 33 ∷ 45 ∷ 45 ∷ [])) same d))
    (subst (λ (t : State). Ends t n (60 ∷ 32 ∷ [])) (sym same) (may_not bytes n (60 ∷ 32 ∷ []) h m.blank)) in
    ap (λ (t : State). state_from n t (60 ∷ part)) (sym same)
    ∙ ap (λ (t : State). state_from (n + 1) (cleared t) part) k.step
    ∙ ap (λ (o : Option Partial). state_from (n + 1) (record s { mode = modes.Less n; partial = o; ready = ready.Nothing; returned = false }) part) k.uncut

-- the fault behind it
pub told_behind : (bytes : List ℕ) (n : ℕ) (part : List ℕ) (f : TextFault) → IsMarkup bytes n → Stands bytes n (60 ∷ part) → (state_from (n + 1) (less_at (state_at bytes n) n) part).mode ≡ modes.Failed f → end_fault_of bytes ≡ Some f
told_behind bytes n part f m e x =
    let inside = stands_within bytes n 60 part e in
    told bytes n (60 ∷ part) f (omega (arith, inside)) e (ap (λ (t : State). t.mode) (behind_less bytes n part (omega (arith, inside)) m) ∙ x)
