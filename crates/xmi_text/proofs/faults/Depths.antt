-- Faults of nesting: the `<` of an element where no more may be nested.
use Rattle.std.proofs.Common.{◌≡◌, ℕ, ◌+◌, ◌≤◌, ◌<◌, ◌⊎◌, Bool, true, false, cond, List, [], ◌∷◌, ◌++◌, length, take, refl, sym, ◌∙◌, ap, subst, arith, Option, Some, None, inl, inr, append_assoc, length-append, codes}
use Rattle.std.proofs.lemmas.Bool.{cond-true, cond-false, and_from, le-leb}
use Rattle.std.proofs.lemmas.Str.{encode_ascii}
use Rattle.std.specs.Prelude.{nat_lt, nat_le}
use Rattle.std.specs.Str.{all_scalars}
use lib.Utf8.{encode, scalar}
use Rattle.mof_metamodel.specs.Characters.{is_storable_character}
use Rattle.xmi_text.specs.declared.limits.TheConstants.{MAX_XMI_NESTING}
use Rattle.xmi_text.specs.ByteClass.{begins_name}
use Rattle.xmi_text.specs.Names.{is_far}
use Rattle.xmi_text.specs.States as states
use Rattle.xmi_text.specs.States.{go, fail, is_inside, cleared, cleared_by}
use Rattle.xmi_text.specs.Steps as steps
use Rattle.xmi_text.specs.Automaton as automaton
use Rattle.xmi_text.specs.Automaton.{end_fault, fault_at}
use Rattle.xmi_text.specs.Reading.{state_from, state_of, end_fault_of}
use Rattle.xmi_text.specs.Faults.{IsLimit}
use Rattle.xmi_text.specs.declared.error.TextFault.{TextFault}
use Rattle.xmi_text.specs.declared.error.TextKind.TheVariants as kinds
use Rattle.xmi_text.specs.declared.utf_eight.Partial.{Partial}
use Rattle.xmi_text.specs.declared.state.State.{State}
use Rattle.xmi_text.specs.declared.state.Mode.{Mode}
use Rattle.xmi_text.specs.declared.state.Mode.TheVariants as modes
use Rattle.xmi_text.specs.declared.state.Ready.TheVariants as ready
use Rattle.xmi_text.proofs.completion.Sound.{sound_of}
use lib.Utf8.{low_scalar}
use Rattle.xmi_text.proofs.backward.Backfar.{storable_far, small_scalar}
use Rattle.xmi_text.proofs.faults.Reasons.{Goes, IsRound, First, TooDeep, Reason}
use Rattle.xmi_text.proofs.faults.History.{Begun, Held, IsHeld, fails, Early, held_at, bits_for, fills_whole}
use Rattle.xmi_text.proofs.backward.Backward.{in_mode}
use Rattle.xmi_text.proofs.faults.Probing.{may, may_not, take_front, stands, is_markup, whole_of, past_none}

-- ---- what may follow where elements are open

-- behind a `<`
abbrev pub opened : State → ℕ → State
opened s at = record s { mode = modes.Less at; partial = None; ready = ready.Nothing; returned = false }

pub round_less : (s : State) (m : Mode) (at b k : ℕ) → IsRound m → end_fault (state_from at (in_mode s m) (60 ∷ b ∷ [])) k ≡ end_fault (state_from (at + 1) (opened s at) (b ∷ [])) k
round_less s modes.Start at b k r = refl
round_less s modes.Outside at b k r = refl
round_less s modes.Inside at b k r = refl
round_less s _ at b k r = absurd r

ended_run : (s : State) (at k : ℕ) (run : List ℕ) → end_fault (cleared (record s { mode = modes.EndName at 0; partial = None; returned = false; run = run; ready = states.due run })) k ≡ Some (fault_at kinds.OpenTag k)
ended_run s at k [] = refl
ended_run s at k (c ∷ run) = refl

pub end_may : (s : State) (m : Mode) (at k : ℕ) → IsRound m → is_inside s ≡ true → end_fault (state_from at (in_mode s m) (codes "</")) k ≡ Some (fault_at kinds.OpenTag k)
end_may s m at k r i =
    let t : State = opened s at in
    round_less s m at 47 k r
    ∙ ap (λ (q : State). end_fault (cleared q) k) (cond-true (is_inside t) (states.begin_end t at) (fail t kinds.BadMark (at + 1)) i)
    ∙ ended_run s at k s.run

deep_run : (s : State) (at k : ℕ) (run : List ℕ) → end_fault (cleared (fail (record s { run = run; ready = states.due run }) kinds.Limit at)) k ≡ Some (fault_at kinds.Limit at)
deep_run s at k [] = refl
deep_run s at k (c ∷ run) = refl

element_may_not : (s : State) (m : Mode) (at k : ℕ) → IsRound m → is_inside s ≡ true → nat_lt (length s.elements) MAX_XMI_NESTING ≡ false → end_fault (state_from at (in_mode s m) (codes "<a")) k ≡ Some (fault_at kinds.Limit at)
element_may_not s m at k r i f =
    let t : State = opened s at in
    let few : State = cond (nat_lt (length t.elements) MAX_XMI_NESTING) (states.begin_tag t at 97) (steps.too_deep t at) in
    round_less s m at 97 k r
    ∙ ap (λ (q : State). end_fault (cleared q) k) (cond-true (is_inside t) few (cond t.rooted (fail t kinds.BadMark (at + 1)) (states.begin_tag t at 97)) i)
    ∙ ap (λ (q : State). end_fault (cleared q) k) (cond-false (nat_lt (length t.elements) MAX_XMI_NESTING) (states.begin_tag t at 97) (steps.too_deep t at) f)
    ∙ deep_run t at k s.run

-- ---- the fault

-- a character that begins a name
record Begins (c : ℕ) : Type 0 where
  scalar : scalar c ≡ true
  begun : (begins_name c ≡ true) ⊎ ((is_far c ≡ true) × (all_scalars (c ∷ []) ≡ true))

-- an element too deep begins here
pub record Deep (bytes : List ℕ) (n : ℕ) : Type 0 where
  pub before : List ℕ
  pub first : ℕ
  pub rest : List ℕ
  pub is : bytes ≡ before ++ ((60 ∷ encode first) ++ rest)
  pub place : length before ≡ n
  pub round : IsRound (state_of before).mode
  pub none : (state_of before).partial ≡ None
  pub inside : is_inside (state_of before) ≡ true
  pub full : nat_lt (length (state_of before).elements) MAX_XMI_NESTING ≡ false
  pub scalar : scalar first ≡ true
  pub begun : (begins_name first ≡ true) ⊎ ((is_far first ≡ true) × (all_scalars (first ∷ []) ≡ true))

deep_at : (bytes ys rest : List ℕ) (n c : ℕ) (names : List (List ℕ)) (r : Bool) → (h : Begun ys n (60 ∷ []) names r) → bytes ≡ h.before ++ ((60 ∷ encode c) ++ rest) → nat_lt 0 (length names) ≡ true → nat_lt (length names) MAX_XMI_NESTING ≡ false → Begins c → Deep bytes n
deep_at bytes ys rest n c names r h e i f w = record {
  before = h.before;
  first = c;
  rest = rest;
  is = e;
  place = h.place;
  round = h.round;
  none = h.none;
  inside = ap (λ (xs : List (List ℕ)). nat_lt 0 (length xs)) h.elements ∙ i;
  full = ap (λ (xs : List (List ℕ)). nat_lt (length xs) MAX_XMI_NESTING) h.elements ∙ f;
  scalar = w.scalar;
  begun = w.begun;
}

limit_at : (bytes : List ℕ) (n : ℕ) → Deep bytes n → IsLimit bytes n
limit_at bytes n h =
    let t : State = state_of h.before in
    let front : take n bytes ≡ h.before = take_front bytes h.before ((60 ∷ encode h.first) ++ h.rest) n h.is h.place in
    record {
      markup = is_markup bytes h.before n front h.round h.none;
      inside = may bytes h.before (codes "</") n t.mode front refl h.none (λ at k. end_may t t.mode at k h.round h.inside);
      full = may_not bytes h.before (codes "<a") n t.mode front refl h.none (λ at k. (fault_at kinds.Limit at, element_may_not t t.mode at k h.round h.inside h.full, tt));
      first = h.first;
      begun = h.begun;
      there = stands bytes h.before (60 ∷ encode h.first) h.rest n h.is h.place;
    }

-- behind a `<` and an ASCII letter
deep_low : (bytes xs : List ℕ) (b : ℕ) (rest : List ℕ) (n : ℕ) (names : List (List ℕ)) (r : Bool) → bytes ≡ xs ++ b ∷ rest → Begun xs n (60 ∷ []) names r → nat_lt 0 (length names) ≡ true → nat_lt (length names) MAX_XMI_NESTING ≡ false → b < 128 → begins_name b ≡ true → Deep bytes n
deep_low bytes xs b rest n names r e h i f l w =
    deep_at bytes xs rest n b names r h
    (whole_of bytes xs h.before (60 ∷ []) b rest e h.is ∙ ap (λ y. h.before ++ (60 ∷ (y ++ rest))) (sym (encode_ascii b l))) i f (record { scalar = low_scalar b (omega arith); begun = inl w })

-- behind a `<` and the bytes of a character
deep_far : (bytes xs : List ℕ) (b : ℕ) (rest : List ℕ) (n c : ℕ) (names : List (List ℕ)) (r : Bool) (before part : List ℕ) → bytes ≡ xs ++ b ∷ rest → xs ≡ before ++ part → Begun before n (60 ∷ []) names r → part ++ b ∷ [] ≡ encode c → 128 ≤ c → scalar c ≡ true → automaton.is_unstorable c ≡ false → nat_lt 0 (length names) ≡ true → nat_lt (length names) MAX_XMI_NESTING ≡ false → Deep bytes n
deep_far bytes xs b rest n c names r before part e p h w l ok u i f =
    let all : bytes ≡ h.before ++ ((60 ∷ encode c) ++ rest) =
    whole_of bytes xs before part b rest e p
    ∙ ap (λ y. y ++ (part ++ b ∷ rest)) h.is
    ∙ append_assoc h.before (60 ∷ []) (part ++ b ∷ rest)
    ∙ ap (λ y. h.before ++ (60 ∷ y)) (sym (append_assoc part (b ∷ []) rest) ∙ ap (λ y. y ++ rest) w) in
    deep_at bytes before rest n c names r h all i f
    (record { scalar = ok; begun = inr (and_from (nat_le 128 c) (is_storable_character c) (le-leb 128 c l) (storable_far c l u), and_from (scalar c) true ok refl) })

deep_less : (bytes xs : List ℕ) (b : ℕ) (rest : List ℕ) (n l : ℕ) (c : Option Partial) → bytes ≡ xs ++ b ∷ rest → (state_of xs).mode ≡ modes.Less l → (state_of xs).partial ≡ c → Held xs (state_of xs) (modes.Less l) c → is_inside (state_of xs) ≡ true → nat_lt (length (state_of xs).elements) MAX_XMI_NESTING ≡ false → First c b → n ≡ l → Deep bytes n
deep_less bytes xs b rest n l None e k o h i f w p = subst (Deep bytes) (sym p) (deep_low bytes xs b rest l (state_of xs).elements (state_of xs).rooted e h i f w.0 w.1)
deep_less bytes xs b rest n l (Some q) e k o h i f w p =
    let s : State = state_of xs in
    let t : State = state_of h.before in
    let bits = (bits_for s.mode s.partial q (sound_of xs).cut (subst Goes (sym k) tt) o).1 in
    let one = fills_whole q b w.0 bits w.1 in
    let small : w.0 < 0x110000 = small_scalar w.0 one.1 in
    let fills = h.fills (b ∷ []) w.0 one.0 small in
    let all : bytes ≡ h.before ++ (h.part ++ b ∷ rest) = whole_of bytes xs h.before h.part b rest e h.is in
    let front : take (length h.before) bytes ≡ h.before = take_front bytes h.before (h.part ++ b ∷ rest) (length h.before) all refl in
    let many : length h.before ≤ length bytes = omega (arith, ap (length {A = ℕ}) all, length-append h.before (h.part ++ b ∷ rest)) in
    let held : IsHeld h.before t = subst (λ ys. IsHeld ys (state_of ys)) front (held_at bytes (length h.before) many) in
    let mode : t.mode ≡ modes.Less l = ap (λ (z : State). z.mode) h.same ∙ k in
    let past : Begun h.before l (60 ∷ []) t.elements t.rooted = past_none h.before t (modes.Less l) t.partial (subst (λ (m : Mode). Held h.before t m t.partial) mode held) h.none tt in
    let names : t.elements ≡ s.elements = ap (λ (z : State). z.elements) h.same in
    subst (Deep bytes) (sym p)
    (deep_far bytes xs b rest l w.0 t.elements t.rooted h.before h.part e h.is past fills.0 fills.1 one.1 w.2
    (ap (λ (ns : List (List ℕ)). nat_lt 0 (length ns)) names ∙ i) (ap (λ (ns : List (List ℕ)). nat_lt (length ns) MAX_XMI_NESTING) names ∙ f))

deep_by : (bytes xs : List ℕ) (b : ℕ) (rest : List ℕ) (n : ℕ) (m : Mode) → bytes ≡ xs ++ b ∷ rest → (state_of xs).mode ≡ m → Held xs (state_of xs) m (state_of xs).partial → TooDeep (state_of xs) (length xs) b m n → Deep bytes n
deep_by bytes xs b rest n (modes.Less l) e k h w = deep_less bytes xs b rest n l (state_of xs).partial e k refl h w.1 w.2 w.3 w.0
deep_by bytes xs b rest n _ e k h w = absurd w

pub deep : (bytes : List ℕ) (f : TextFault) → end_fault_of bytes ≡ Some f → f.kind ≡ kinds.Limit → Deep bytes f.at
deep bytes f e k =
    let h = fails bytes f (subst Early (sym k) tt) e in
    let s : State = state_of h.xs in
    let w = subst (λ kind. Reason s (length h.xs) h.b s.mode kind f.at) k h.reason in
    deep_by bytes h.xs h.b h.rest f.at s.mode h.is refl h.held w

pub limit : (bytes : List ℕ) (f : TextFault) → end_fault_of bytes ≡ Some f → f.kind ≡ kinds.Limit → IsLimit bytes f.at
limit bytes f e k = limit_at bytes f.at (deep bytes f e k)
