-- Where faults stand: the bytes before one may go on, and those up to a bad mark, its byte among them, may not.
use Rattle.std.proofs.Common.{◌≡◌, ℕ, ◌+◌, ◌*◌, ◌%◌, ◌≤◌, ◌<◌, Bool, true, false, cond, List, [], ◌∷◌, ◌++◌, length, take, get_or, zero, suc, refl, sym, ◌∙◌, ap, subst, arith, Option, Some, None, inl, inr, true≢false}
use Rattle.std.proofs.Math.Seq.{take-length}
use Rattle.std.proofs.lemmas.List.{length-take-le, take_more}
use Rattle.std.proofs.lemmas.Bool.{or_parts, ltb-false, eqb-false, cases_eq, eq-eqb, ne_eqb, le-leb, cases_lt, and_from, both_ways, false_from_ne_true, cond-false}
use Rattle.std.specs.Prelude.{nat_lt, nat_le, ◌==◌, ◌||◌, ◌&&◌, not}
use Rattle.xmi_text.specs.declared.limits.TheConstants.{MAX_XMI_NESTING}
use Rattle.xmi_text.specs.ByteClass.{within, is_storable_byte, is_blank, begins_name, continues_name, holds_in_name}
use Rattle.xmi_text.specs.AttrNames.{has_name}
use Rattle.xmi_text.specs.UtfEight as utf
use Rattle.xmi_text.specs.References as refs
use Rattle.xmi_text.specs.States as states
use Rattle.xmi_text.specs.States.{start, go, fail, is_inside, around, cleared, cleared_by}
use Rattle.xmi_text.specs.Steps as steps
use Rattle.xmi_text.specs.Automaton as automaton
use Rattle.xmi_text.specs.Automaton.{step, step_by, end_fault, end_fault_by, fault_at}
use Rattle.xmi_text.specs.Reading.{state_of, end_fault_of}
use Rattle.xmi_text.specs.Completion.{MayGoOn, completion}
use Rattle.xmi_text.specs.declared.error.TextFault.{TextFault}
use Rattle.xmi_text.specs.declared.error.TextKind.{TextKind}
use Rattle.xmi_text.specs.declared.error.TextKind.TheVariants as kinds
use Rattle.xmi_text.specs.declared.reference.Reference.{Reference}
use Rattle.xmi_text.specs.declared.reference.Reference.TheVariants as ref
use Rattle.xmi_text.specs.declared.utf_eight.Partial.{Partial}
use Rattle.xmi_text.specs.declared.utf_eight.Rest.{Rest}
use Rattle.xmi_text.specs.declared.utf_eight.Rest.TheVariants as rests
use Rattle.xmi_text.specs.declared.utf_eight.Growth.{Growth}
use Rattle.xmi_text.specs.declared.utf_eight.Growth.TheVariants as growths
use Rattle.xmi_text.specs.declared.state.State.{State}
use Rattle.xmi_text.specs.declared.state.Mode.{Mode}
use Rattle.xmi_text.specs.declared.state.Mode.TheVariants as modes
use Rattle.xmi_text.specs.declared.state.Quote.{Quote}
use Rattle.xmi_text.specs.declared.state.Quote.TheVariants as quotes
use Rattle.xmi_text.specs.declared.state.Within.{Within}
use Rattle.xmi_text.specs.declared.state.Within.TheVariants as places
use Rattle.xmi_text.specs.declared.state.Brackets.{Brackets}
use Rattle.xmi_text.specs.declared.state.Brackets.TheVariants as brackets
use Rattle.xmi_text.specs.declared.state.Ready.{Ready}
use Rattle.xmi_text.specs.declared.state.Ready.TheVariants as ready
use Rattle.xmi_text.proofs.completion.Sound.{Bits, Takes, Cut, within_range, sound_of}
use Rattle.xmi_text.proofs.completion.Completing.{completed}
use Rattle.xmi_text.proofs.reading.Reached.{state_of-append}
use Rattle.xmi_text.proofs.completion.Ending.{Dead, IsDead, IsLater, IsNoMark, NotLess, not_fifteen, dead_from, dead_cleared, open_or_dead}

abbrev pub IsMark : TextKind → Type 0
IsMark kinds.BadMark = Unit {0}
IsMark _ = ⊥

around_later : (b : Bool) → IsLater (cond b modes.Inside modes.Outside)
around_later true = tt
around_later false = tt

-- a character that has begun
abbrev pub Early : Rest → Type 0
Early (rests.One bits) = bits < 32
Early _ = Unit {0}

abbrev pub Fresh : ℕ → Option Partial → Type 0
Fresh at None = Unit {0}
Fresh at (Some p) = (p.lead ≡ at) × Early p.rest

fresh : (at : ℕ) (b : Bool) (x y : Option Partial) → Fresh at x → Fresh at y → Fresh at (cond b x y)
fresh at true x y f g = f
fresh at false x y f g = g

pub begun_fresh : (at b : ℕ) → Fresh at (utf.begun at b)
begun_fresh at b =
    fresh at (within 0xc2 0xdf b) _ _ (refl, omega arith)
    (fresh at (b == 0xe0) _ _ (refl, tt)
    (fresh at (b == 0xed) _ _ (refl, tt)
    (fresh at (within 0xe1 0xef b) _ _ (refl, tt)
    (fresh at (b == 0xf0) _ _ (refl, tt) (fresh at (within 0xf1 0xf3 b) _ _ (refl, tt) (fresh at (b == 0xf4) _ _ (refl, tt) tt))))))

-- a character keeps its place
abbrev pub Led : ℕ → Growth → Type 0
Led lead growths.Broken = Unit {0}
Led lead (growths.Partial q) = q.lead ≡ lead
Led lead (growths.Whole c) = Unit {0}

led : (lead : ℕ) (b : Bool) (x y : Growth) → Led lead x → Led lead y → Led lead (cond b x y)
led lead true x y f g = f
led lead false x y f g = g

found_led : (lead : ℕ) (c : Option ℕ) → Led lead (utf.found c)
found_led lead None = tt
found_led lead (Some c) = tt

added_led : (p : Partial) (rest : Rest) (b : ℕ) → Led p.lead (utf.added p rest b)
added_led p (rests.Three bits) b = refl
added_led p (rests.Two bits) b = refl
added_led p (rests.One bits) b = led p.lead (nat_lt 0x4fff bits) _ _ tt (found_led p.lead (utf.scalar (bits * 64 + b % 64)))

pub extended_led : (p : Partial) (b : ℕ) → Led p.lead (utf.extended p b)
extended_led p b = led p.lead (nat_lt b p.low || nat_lt p.high b) _ _ tt (added_led p p.rest b)

same_admits : (s : State) (q : Partial) (m : Mode) → automaton.admits s m ≡ automaton.admits (record s { partial = Some q }) m
same_admits s q (modes.Less less) = refl
same_admits s q _ = refl

admits_same : (s t : State) (m : Mode) → s.elements ≡ t.elements → s.rooted ≡ t.rooted → automaton.admits s m ≡ automaton.admits t m
admits_same s t (modes.Less less) e r =
    ap (λ (names : List (List ℕ)). cond (nat_lt 0 (length names)) (nat_lt (length names) MAX_XMI_NESTING) (not s.rooted)) e
    ∙ ap (λ (b : Bool). cond (is_inside t) (nat_lt (length t.elements) MAX_XMI_NESTING) (not b)) r
admits_same s t _ e r = refl

-- bounds on a character of three bytes, and on the bits of its first two
within_from : (low high b : ℕ) → low ≤ b → b ≤ high → within low high b ≡ true
within_from low high b l h = and_from (nat_le low b) (nat_le b high) (le-leb low b l) (le-leb b high h)

below : (c : ℕ) → (c ≡ 0xfeff → ⊥) → c ≤ 0xfeff → c ≤ 0xfefe
below c n h = elim (cases_lt c 0xfeff) [ inl less ↦ omega arith | inr more ↦ absurd (n (omega arith)) ]

no_mark : (c bits : ℕ) → bits ≡ 0x3fb → (c == 0xfeff) ≡ false → within 0xfec0 0xfefe c ≡ false → bits * 64 ≤ c → c < bits * 64 + 64 → ⊥
no_mark c bits e n v l u =
    let other = eqb-false c 0xfeff n in
    elim (cases_eq c 0xfeff) [ inl same ↦ other same | inr differs ↦ both_ways (within 0xfec0 0xfefe c) v (within_from 0xfec0 0xfefe c (omega arith) (below c differs (omega arith))) ]

not_within : (bits c : ℕ) → within 0xf000 0xffff c ≡ false → bits * 64 ≤ c → c < bits * 64 + 64 → within 0x3c0 0x3ff bits ≡ false
not_within bits c w l u =
    false_from_ne_true (within 0x3c0 0x3ff bits)
    (λ e. let r = within_range 0x3c0 0x3ff bits e in both_ways (within 0xf000 0xffff c) w (within_from 0xf000 0xffff c (omega (arith, r.0)) (omega (arith, r.1))))

-- H of a place: the bytes before it may go on. G: those up to it, its byte among them, may not
module _ (H G : ℕ → Type 0) where
  abbrev pub Placed : TextFault → Type 0
  Placed f = H f.at × (IsMark f.kind → G f.at)

  -- the places that a state knows
  abbrev pub Kept : ℕ → Mode → Type 0
  Kept attr (modes.Less at) = H at
  Kept attr (modes.Bang at) = H at
  Kept attr (modes.Doctype less word_at matched) = H less × H word_at × G word_at
  Kept attr (modes.EndName at matched) = H at
  Kept attr (modes.EndTail at) = H at
  Kept attr (modes.Reference at place part) = H at
  Kept attr (modes.AttrName colon) = H attr
  Kept attr (modes.Failed f) = Placed f
  Kept attr _ = Unit {0}

  -- in what may be a byte order mark, of which n bytes have come
  abbrev pub StartKept : ℕ → ℕ → Rest → Type 0
  StartKept n lead (rests.Three bits) = G lead
  StartKept n lead (rests.Two bits) = (bits ≡ 15 → n ≡ 1) × ((bits ≡ 15 → ⊥) → G lead)
  StartKept n lead (rests.One bits) = (bits ≡ 0x3fb → n ≡ 2) × (within 0x3c0 0x3ff bits ≡ true → (bits ≡ 0x3fb → ⊥) → H 1 × G 1) × (within 0x3c0 0x3ff bits ≡ false → G lead)

  abbrev pub CutKept : State → Mode → Option Partial → ℕ → Type 0
  CutKept s (modes.Failed f) c n = Unit {0}
  CutKept s modes.Start None n = n ≡ 0
  CutKept s m None n = Unit {0}
  CutKept s modes.Start (Some p) n = H p.lead × StartKept n p.lead p.rest
  CutKept s m (Some p) n = H p.lead × (automaton.admits s m ≡ false → G p.lead)

  pub record IsKept (s : State) (n : ℕ) : Type 0 where
    pub mode : Kept s.attr.at s.mode
    pub cut : CutKept s s.mode s.partial n

  -- behind a byte at a place: where nothing makes the bytes whole from here on, it is one that may not stand there
  pub record Next (at : ℕ) (t : State) : Type 0 where
    pub kept : (Dead t → G at) → IsKept t (at + 1)

  nothing_cut : (s : State) (m : Mode) (p : Option Partial) (n : ℕ) → p ≡ None → IsLater m → CutKept s m p n
  nothing_cut s (modes.Failed f) p n e l = tt
  nothing_cut s modes.Start p n e l = absurd l
  nothing_cut s m None n e l = tt
  nothing_cut s m (Some p) n e l = cc

  bad : (s : State) (k : TextKind) (at : ℕ) → H at → Next at (fail s k at)
  bad s k at h = record { kept = λ d. record { mode = (h, λ _. d tt); cut = tt } }

  bad_before : (s : State) (k : TextKind) (at place : ℕ) → H place → (IsMark k → G place) → Next at (fail s k place)
  bad_before s k at place h g = record { kept = λ d. record { mode = (h, g); cut = tt } }

  gone : (s : State) (m : Mode) (at : ℕ) → s.partial ≡ None → IsLater m → Kept s.attr.at m → Next at (go s m)
  gone s m at e l h = record { kept = λ d. record { mode = h; cut = nothing_cut (go s m) m s.partial (at + 1) e l } }

  either : (at : ℕ) {x y : State} (b : Bool) → (b ≡ true → Next at x) → (b ≡ false → Next at y) → Next at (cond b x y)
  either at true f g = f refl
  either at false f g = g refl

  added : (s : State) (m : Mode) (cs : List ℕ) (r : Bool) (at : ℕ) → s.partial ≡ None → IsLater m → Kept s.attr.at m → Next at (states.add s m cs r)
  added s m cs r at e l h = record { kept = λ d. record { mode = h; cut = nothing_cut (states.add s m cs r) m s.partial (at + 1) e l } }

  valued : (s : State) (q : Quote) (c : ℕ) (r : Bool) (at : ℕ) → s.partial ≡ None → Next at (states.add_to_value s q c r)
  valued s q c r at e = record { kept = λ d. record { mode = tt; cut = nothing_cut (states.add_to_value s q c r) (modes.Value q) s.partial (at + 1) e tt } }

  around_kept : (attr : ℕ) (b : Bool) → Kept attr (cond b modes.Inside modes.Outside)
  around_kept attr true = tt
  around_kept attr false = tt

  around_gone : (s : State) (at : ℕ) → s.partial ≡ None → Next at (go s (around s))
  around_gone s at e = gone s (around s) at e (around_later (is_inside s)) (around_kept s.attr.at (is_inside s))

  outside_next : (s : State) (at b : ℕ) → s.partial ≡ None → H at → Next at (steps.outside s at b)
  outside_next s at b e h =
      either at (b == 60) (λ _. gone s (modes.Less at) at e tt h)
      (λ _. either at (is_blank b) (λ _. gone s modes.Outside at e tt tt) (λ _. bad s kinds.BadMark at h))

  inside_next : (s : State) (at b : ℕ) → s.partial ≡ None → H at → Next at (steps.inside s at b)
  inside_next s at b e h =
      either at (b == 60) (λ _. gone s (modes.Less at) at e tt h)
      (λ _. either at (b == 38) (λ _. gone s (modes.Reference at places.Content ref.Begun) at e tt h)
      (λ _. either at (b == 13) (λ _. added s modes.Inside (10 ∷ []) true at e tt tt)
      (λ _. either at ((b == 10) && s.returned) (λ _. gone s modes.Inside at e tt tt)
      (λ _. either at (is_storable_byte b) (λ _. added s modes.Inside (b ∷ []) false at e tt tt) (λ _. bad s kinds.BadMark at h)))))

  bracket_next : (s : State) (held : Brackets) (at : ℕ) → s.partial ≡ None → Next at (steps.bracket s held)
  bracket_next s brackets.None at e = gone s (modes.Cdata brackets.One) at e tt tt
  bracket_next s brackets.One at e = gone s (modes.Cdata brackets.Two) at e tt tt
  bracket_next s brackets.Two at e = added s (modes.Cdata brackets.Two) (93 ∷ []) false at e tt tt

  cdata_next : (s : State) (held : Brackets) (at b : ℕ) → s.partial ≡ None → H at → Next at (steps.cdata s held at b)
  cdata_next s held at b e h =
      either at (b == 93) (λ _. bracket_next s held at e)
      (λ _. either at ((b == 62) && steps.are_two held) (λ _. gone s modes.Inside at e tt tt)
      (λ _. either at (b == 13) (λ _. added s states.cdata (states.brackets held ++ 10 ∷ []) true at e tt tt)
      (λ _. either at ((b == 10) && s.returned) (λ _. gone s states.cdata at e tt tt)
      (λ _. either at (is_storable_byte b) (λ _. added s states.cdata (states.brackets held ++ b ∷ []) false at e tt tt) (λ _. bad s kinds.BadMark at h)))))

  end_begun : (s : State) (less at : ℕ) → s.partial ≡ None → H less → Next at (states.begin_end s less)
  end_begun s less at e h = record { kept = λ d. record { mode = h; cut = nothing_cut (states.begin_end s less) (modes.EndName less 0) s.partial (at + 1) e tt } }

  tag_begun : (s : State) (less c at : ℕ) → s.partial ≡ None → Next at (states.begin_tag s less c)
  tag_begun s less c at e = record { kept = λ d. record { mode = tt; cut = nothing_cut (states.begin_tag s less c) (modes.TagName false) s.partial (at + 1) e tt } }

  element_next : (s : State) (less at c : ℕ) → s.partial ≡ None → H less → H at → Next at (steps.begin_element s less at c)
  element_next s less at c e l h =
      either at (is_inside s)
      (λ _. either at (nat_lt (length s.elements) MAX_XMI_NESTING) (λ _. tag_begun s less c at e) (λ _. bad_before (record s { ready = states.due s.run }) kinds.Limit at less l (λ x. absurd x)))
      (λ _. either at s.rooted (λ _. bad s kinds.BadMark at h) (λ _. tag_begun s less c at e))

  less_next : (s : State) (less at b : ℕ) → s.partial ≡ None → H less → H at → Next at (steps.less s less at b)
  less_next s less at b e l h =
      either at (b == 33) (λ _. gone s (modes.Bang less) at e tt l)
      (λ _. either at (b == 63) (λ _. gone s modes.Question at e tt tt)
      (λ _. either at (b == 47) (λ _. either at (is_inside s) (λ _. end_begun s less at e l) (λ _. bad s kinds.BadMark at h))
      (λ _. either at (begins_name b) (λ _. element_next s less at b e l h) (λ _. bad s kinds.BadName at h))))

  doctype_begun : (s : State) (less at : ℕ) → s.partial ≡ None → H less → H at → Next at (go s (modes.Doctype less at 1))
  doctype_begun s less at e l h = record { kept = λ d. record { mode = (l, h, d tt); cut = nothing_cut (go s (modes.Doctype less at 1)) (modes.Doctype less at 1) s.partial (at + 1) e tt } }

  bang_next : (s : State) (less at b : ℕ) → s.partial ≡ None → H less → H at → Next at (steps.bang s less at b)
  bang_next s less at b e l h =
      either at (b == 45) (λ _. gone s modes.Dash at e tt tt)
      (λ _. either at ((b == 91) && is_inside s) (λ _. gone s (modes.CdataStart 1) at e tt tt)
      (λ _. either at (b == 68) (λ _. doctype_begun s less at e l h) (λ _. bad s kinds.BadMark at h)))

  doctype_next : (s : State) (less word_at matched at b : ℕ) → s.partial ≡ None → H less → H word_at → G word_at → Next at (steps.doctype s less word_at matched b)
  doctype_next s less word_at matched at b e l w g =
      either at (not (steps.is_wanted (steps.doctype_byte matched) b)) (λ _. bad_before s kinds.BadMark at word_at w (λ _. g))
      (λ _. either at (nat_lt matched 6) (λ _. gone s (modes.Doctype less word_at (matched + 1)) at e tt (l, w, g)) (λ _. bad_before s kinds.Doctype at less l (λ x. absurd x)))

  cdata_start_next : (s : State) (matched at b : ℕ) → s.partial ≡ None → H at → Next at (steps.cdata_start s matched at b)
  cdata_start_next s matched at b e h =
      either at (not (steps.is_wanted (steps.cdata_byte matched) b)) (λ _. bad s kinds.BadMark at h)
      (λ _. either at (nat_lt matched 6) (λ _. gone s (modes.CdataStart (matched + 1)) at e tt tt) (λ _. gone s states.cdata at e tt tt))

  passed_next : (s : State) (m : Mode) (at b : ℕ) → s.partial ≡ None → H at → IsLater m → Kept s.attr.at m → Next at (steps.passed s m at b)
  passed_next s m at b e h l k = either at (is_storable_byte b) (λ _. gone s m at e l k) (λ _. bad s kinds.BadMark at h)

  only_next : (s : State) (wanted : ℕ) (m : Mode) (at b : ℕ) → s.partial ≡ None → H at → IsLater m → Kept s.attr.at m → Next at (steps.only s wanted m at b)
  only_next s wanted m at b e h l k = either at (b == wanted) (λ _. gone s m at e l k) (λ _. bad s kinds.BadMark at h)

  comment_next : (s : State) (dashed : Mode) (at b : ℕ) → s.partial ≡ None → H at → IsLater dashed → Kept s.attr.at dashed → Next at (steps.comment s dashed at b)
  comment_next s dashed at b e h l k = either at (b == 45) (λ _. gone s dashed at e l k) (λ _. passed_next s modes.Comment at b e h tt tt)

  comment_end_next : (s : State) (at b : ℕ) → s.partial ≡ None → H at → Next at (steps.comment_end s at b)
  comment_end_next s at b e h = either at (b == 62) (λ _. around_gone s at e) (λ _. comment_next s modes.CommentDashes at b e h tt tt)

  question_next : (s : State) (at b : ℕ) → s.partial ≡ None → H at → Next at (steps.question s at b)
  question_next s at b e h = either at (begins_name b) (λ _. gone s (modes.Target false) at e tt tt) (λ _. bad s kinds.BadName at h)

  instruction_next : (s : State) (at b : ℕ) → s.partial ≡ None → H at → Next at (steps.instruction s at b)
  instruction_next s at b e h = either at (b == 63) (λ _. gone s modes.InstructionQuestion at e tt tt) (λ _. passed_next s modes.Instruction at b e h tt tt)

  instruction_end_next : (s : State) (at b : ℕ) → s.partial ≡ None → H at → Next at (steps.instruction_end s at b)
  instruction_end_next s at b e h = either at (b == 62) (λ _. around_gone s at e) (λ _. instruction_next s at b e h)

  target_next : (s : State) (had : Bool) (at b : ℕ) → s.partial ≡ None → H at → Next at (steps.target s had at b)
  target_next s had at b e h =
      either at (b == 58) (λ _. either at had (λ _. bad s kinds.BadName at h) (λ _. gone s (modes.Target true) at e tt tt))
      (λ _. either at (continues_name b) (λ _. gone s (modes.Target had) at e tt tt) (λ _. instruction_next s at b e h))

  opened : (s : State) (at : ℕ) → s.partial ≡ None → Next at (states.open_tag s at)
  opened s at e = record { kept = λ d. record { mode = tt; cut = nothing_cut (states.open_tag s at) modes.Inside s.partial (at + 1) e tt } }

  emptied : (s : State) (at : ℕ) → s.partial ≡ None → Next at (states.empty_tag s at)
  emptied s at e = record { kept = λ d. record { mode = around_kept s.attr.at (is_inside s); cut = nothing_cut (states.empty_tag s at) (around s) s.partial (at + 1) e (around_later (is_inside s)) } }

  closed : (s : State) (less at : ℕ) → s.partial ≡ None → Next at (states.close_tag s less at)
  closed s less at e = record { kept = λ d. record { mode = around_kept s.attr.at (is_inside (states.left s)); cut = nothing_cut (states.close_tag s less at) (around (states.left s)) s.partial (at + 1) e (around_later (is_inside (states.left s))) } }

  part_next : (s : State) (at b : ℕ) → s.partial ≡ None → H at → Next at (steps.part s at b)
  part_next s at b e h =
      either at (b == 47) (λ _. gone s modes.Slash at e tt tt)
      (λ _. either at (b == 62) (λ _. opened s at e)
      (λ _. either at (is_blank b) (λ _. gone s modes.Tag at e tt tt) (λ _. bad s kinds.BadMark at h)))

  tag_longer : (s : State) (colon : Bool) (c at : ℕ) → s.partial ≡ None → Next at (states.add_to_tag s colon c)
  tag_longer s colon c at e = record { kept = λ d. record { mode = tt; cut = nothing_cut (states.add_to_tag s colon c) (modes.TagName colon) s.partial (at + 1) e tt } }

  tag_name_next : (s : State) (had : Bool) (at b : ℕ) → s.partial ≡ None → H at → Next at (steps.tag_name s had at b)
  tag_name_next s had at b e h =
      either at (b == 58) (λ _. either at had (λ _. bad s kinds.BadName at h) (λ _. tag_longer s true 58 at e))
      (λ _. either at (continues_name b) (λ _. tag_longer s had b at e) (λ _. part_next s at b e h))

  attr_begun : (s : State) (at c : ℕ) → s.partial ≡ None → H at → Next at (states.begin_attr s at c)
  attr_begun s at c e h = record { kept = λ d. record { mode = h; cut = nothing_cut (states.begin_attr s at c) (modes.AttrName false) s.partial (at + 1) e tt } }

  tag_next : (s : State) (at b : ℕ) → s.partial ≡ None → H at → Next at (steps.tag s at b)
  tag_next s at b e h = either at (begins_name b) (λ _. attr_begun s at b e h) (λ _. part_next s at b e h)

  equals_next : (s : State) (at b : ℕ) → s.partial ≡ None → H at → Next at (steps.equals s at b)
  equals_next s at b e h =
      either at (b == 61) (λ _. gone s modes.BeforeValue at e tt tt)
      (λ _. either at (is_blank b) (λ _. gone s modes.AfterName at e tt tt) (λ _. bad s kinds.BadMark at h))

  name_end_next : (s : State) (at b : ℕ) → s.partial ≡ None → H at → H s.attr.at → Next at (steps.name_end s at b)
  name_end_next s at b e h a =
      either at (has_name s.attrs s.attr.name) (λ _. bad_before s kinds.DuplicateAttribute at s.attr.at a (λ x. absurd x)) (λ _. equals_next s at b e h)

  name_longer : (s : State) (colon : Bool) (c at : ℕ) → s.partial ≡ None → H s.attr.at → Next at (states.add_to_name s colon c)
  name_longer s colon c at e a = record { kept = λ d. record { mode = a; cut = nothing_cut (states.add_to_name s colon c) (modes.AttrName colon) s.partial (at + 1) e tt } }

  attr_name_next : (s : State) (had : Bool) (at b : ℕ) → s.partial ≡ None → H at → H s.attr.at → Next at (steps.attr_name s had at b)
  attr_name_next s had at b e h a =
      either at (b == 58) (λ _. either at had (λ _. bad s kinds.BadName at h) (λ _. name_longer s true 58 at e a))
      (λ _. either at (continues_name b) (λ _. name_longer s had b at e a) (λ _. name_end_next s at b e h a))

  before_value_next : (s : State) (at b : ℕ) → s.partial ≡ None → H at → Next at (steps.before_value s at b)
  before_value_next s at b e h =
      either at (b == 34) (λ _. gone s (modes.Value quotes.Double) at e tt tt)
      (λ _. either at (b == 39) (λ _. gone s (modes.Value quotes.Single) at e tt tt)
      (λ _. either at (is_blank b) (λ _. gone s modes.BeforeValue at e tt tt) (λ _. bad s kinds.BadMark at h)))

  attr_ended : (s : State) (at : ℕ) → s.partial ≡ None → Next at (states.end_attr s)
  attr_ended s at e = record { kept = λ d. record { mode = tt; cut = nothing_cut (states.end_attr s) modes.AfterValue s.partial (at + 1) e tt } }

  value_next : (s : State) (q : Quote) (at b : ℕ) → s.partial ≡ None → H at → Next at (steps.value s q at b)
  value_next s q at b e h =
      either at (b == steps.quote_byte q) (λ _. attr_ended s at e)
      (λ _. either at (b == 60) (λ _. bad s kinds.BadMark at h)
      (λ _. either at (b == 38) (λ _. gone s (modes.Reference at (places.Value q) ref.Begun) at e tt h)
      (λ _. either at (b == 13) (λ _. valued s q 32 true at e)
      (λ _. either at ((b == 10) && s.returned) (λ _. gone s (modes.Value q) at e tt tt)
      (λ _. either at ((b == 10) || (b == 9)) (λ _. valued s q 32 false at e)
      (λ _. either at (is_storable_byte b) (λ _. valued s q b false at e) (λ _. bad s kinds.BadMark at h)))))))

  slash_next : (s : State) (at b : ℕ) → s.partial ≡ None → H at → Next at (steps.slash s at b)
  slash_next s at b e h = either at (b == 62) (λ _. emptied s at e) (λ _. bad s kinds.BadMark at h)

  tail_next : (s : State) (less at b : ℕ) → s.partial ≡ None → H less → H at → Next at (steps.tail s less at b)
  tail_next s less at b e l h =
      either at (b == 62) (λ _. closed s less at e)
      (λ _. either at (is_blank b) (λ _. gone s (modes.EndTail less) at e tt l) (λ _. bad s kinds.BadMark at h))

  reference_to_next : (s : State) (amp : ℕ) (place : Within) (c : Option ℕ) (at : ℕ) → s.partial ≡ None → H amp → Next at (automaton.reference_to s amp place c)
  reference_to_next s amp places.Content None at e h = bad_before s kinds.BadEntity at amp h (λ x. absurd x)
  reference_to_next s amp (places.Value q) None at e h = bad_before s kinds.BadEntity at amp h (λ x. absurd x)
  reference_to_next s amp places.Content (Some c) at e h = added s modes.Inside (c ∷ []) false at e tt tt
  reference_to_next s amp (places.Value q) (Some c) at e h = valued s q c false at e

  reference_on_next : (s : State) (amp : ℕ) (place : Within) (part : Option Reference) (at : ℕ) → s.partial ≡ None → H amp → Next at (automaton.reference_on s amp place part)
  reference_on_next s amp place None at e h = bad_before s kinds.BadEntity at amp h (λ x. absurd x)
  reference_on_next s amp place (Some part) at e h = gone s (modes.Reference amp place part) at e tt h

  reference_next : (s : State) (amp : ℕ) (place : Within) (part : Reference) (at b : ℕ) → s.partial ≡ None → H amp → Next at (automaton.reference s amp place part b)
  reference_next s amp place part at b e h =
      either at (b == 59) (λ _. reference_to_next s amp place (refs.character part) at e h) (λ _. reference_on_next s amp place (refs.extended part b) at e h)

  name_behind_next : (s : State) (less at b : ℕ) → s.partial ≡ None → H less → H at → Next at (automaton.name_behind s less at b)
  name_behind_next s less at b e l h =
      either at (holds_in_name b) (λ _. bad_before s kinds.WrongEnd at less l (λ x. absurd x))
      (λ _. either at (nat_lt b 128) (λ _. tail_next s less at b e l h) (λ _. bad s kinds.BadUtf8 at h))

  end_name_next : (s : State) (less matched at b : ℕ) (w : Option ℕ) → s.partial ≡ None → H less → H at → Next at (automaton.end_name_by s less matched at b w)
  end_name_next s less matched at b None e l h = name_behind_next s less at b e l h
  end_name_next s less matched at b (Some w) e l h =
      either at (w == b) (λ _. gone s (modes.EndName less (matched + 1)) at e tt l) (λ _. bad_before s kinds.WrongEnd at less l (λ x. absurd x))

  -- an ASCII byte
  ascii_next : (s : State) (m : Mode) (at b : ℕ) → s.partial ≡ None → Takes m → H at → Kept s.attr.at m → Next at (automaton.ascii s m at b)
  ascii_next s modes.Start at b e t h k = outside_next s at b e h
  ascii_next s modes.Outside at b e t h k = outside_next s at b e h
  ascii_next s modes.Inside at b e t h k = inside_next s at b e h
  ascii_next s (modes.Less less) at b e t h k = less_next s less at b e k h
  ascii_next s (modes.Bang less) at b e t h k = bang_next s less at b e k h
  ascii_next s modes.Dash at b e t h k = only_next s 45 modes.Comment at b e h tt tt
  ascii_next s modes.Comment at b e t h k = comment_next s modes.CommentDash at b e h tt tt
  ascii_next s modes.CommentDash at b e t h k = comment_next s modes.CommentDashes at b e h tt tt
  ascii_next s modes.CommentDashes at b e t h k = comment_end_next s at b e h
  ascii_next s (modes.Doctype less word_at matched) at b e t h k = absurd t
  ascii_next s (modes.CdataStart matched) at b e t h k = cdata_start_next s matched at b e h
  ascii_next s (modes.Cdata held) at b e t h k = cdata_next s held at b e h
  ascii_next s modes.Question at b e t h k = question_next s at b e h
  ascii_next s (modes.Target colon) at b e t h k = target_next s colon at b e h
  ascii_next s modes.Instruction at b e t h k = instruction_next s at b e h
  ascii_next s modes.InstructionQuestion at b e t h k = instruction_end_next s at b e h
  ascii_next s (modes.TagName colon) at b e t h k = tag_name_next s colon at b e h
  ascii_next s modes.Tag at b e t h k = tag_next s at b e h
  ascii_next s (modes.AttrName colon) at b e t h k = attr_name_next s colon at b e h k
  ascii_next s modes.AfterName at b e t h k = equals_next s at b e h
  ascii_next s modes.BeforeValue at b e t h k = before_value_next s at b e h
  ascii_next s (modes.Value q) at b e t h k = value_next s q at b e h
  ascii_next s modes.AfterValue at b e t h k = part_next s at b e h
  ascii_next s modes.Slash at b e t h k = slash_next s at b e h
  ascii_next s (modes.EndName less matched) at b e t h k = absurd t
  ascii_next s (modes.EndTail less) at b e t h k = tail_next s less at b e k h
  ascii_next s (modes.Reference amp place part) at b e t h k = absurd t
  ascii_next s (modes.Failed f) at b e t h k = absurd t

  abbrev state : State → Mode → Option Partial → State
  state s m c = record s { mode = m; partial = c }

  cut_of : (s : State) (m : Mode) (p : Partial) (n : ℕ) → IsLater m → H p.lead → (automaton.admits s m ≡ false → G p.lead) → CutKept s m (Some p) n
  cut_of s (modes.Failed f) p n l h g = tt
  cut_of s modes.Start p n l h g = absurd l
  cut_of s _ p n l h g = (h, g)

  -- the first byte of a character, where the text starts
  start_cut : (at : ℕ) (p : Partial) (rest : Rest) → Early rest → at ≡ 0 → p.lead ≡ at → (IsNoMark rest → G at) → StartKept (at + 1) p.lead rest
  start_cut at p (rests.Three bits) f z e d = subst G (sym e) (d tt)
  start_cut at p (rests.Two bits) f z e d = (λ _. omega arith, λ n. subst G (sym e) (d (ne_eqb bits 15 n)))
  start_cut at p (rests.One bits) f z e d =
      (λ b. absurd (omega arith), λ w _. let r = within_range 0x3c0 0x3ff bits w in absurd (omega (arith, r.0)), λ _. subst G (sym e) (d (ne_eqb bits 0x3fb (λ b. omega arith))))

  lead_cut : (s : State) (m : Mode) (at : ℕ) (p : Partial) → p.lead ≡ at → Early p.rest → Takes m → H at → CutKept s m None at → (IsDead (state s m (Some p)) m (Some p) → G at) → CutKept (state s m (Some p)) m (Some p) (at + 1)
  lead_cut s modes.Start at p e f t h c d = (subst H (sym e) h, start_cut at p p.rest f c e d)
  lead_cut s (modes.Reference amp place part) at p e f t h c d = absurd t
  lead_cut s (modes.Doctype less word_at matched) at p e f t h c d = absurd t
  lead_cut s (modes.EndName less matched) at p e f t h c d = absurd t
  lead_cut s (modes.Failed g) at p e f t h c d = tt
  lead_cut s _ at p e f t h c d = (subst H (sym e) h, λ a. subst G (sym e) (d a))

  lead_on_next : (s : State) (m : Mode) (at : ℕ) (o : Option Partial) → Fresh at o → Takes m → H at → Kept s.attr.at m → CutKept s m None at → Next at (automaton.lead_on (state s m None) at o)
  lead_on_next s m at None f t h k c = bad (state s m None) kinds.BadUtf8 at h
  lead_on_next s m at (Some p) f t h k c = record { kept = λ d. record { mode = k; cut = lead_cut s m at p f.0 f.1 t h c d } }

  pub twin_kept : (s : State) (m : Mode) (b : ℕ) → automaton.ends_twin s m b ≡ true → Kept s.attr.at m → H s.attr.at
  twin_kept s (modes.AttrName colon) b e k = k
  twin_kept s _ b e k = absurd (true≢false (sym e))

  lead_next : (s : State) (m : Mode) (at b : ℕ) → Takes m → H at → Kept s.attr.at m → CutKept s m None at → Next at (automaton.lead (state s m None) m at b)
  lead_next s m at b t h k c =
      either at (automaton.ends_twin (state s m None) m b)
      (λ e. bad_before (state s m None) kinds.DuplicateAttribute at s.attr.at (twin_kept (state s m None) m b e k) (λ x. absurd x))
      (λ _. lead_on_next s m at (utf.begun at b) (begun_fresh at b) t h k c)

  -- ---- behind a whole character

  clear : (at : ℕ) (b : Bool) (x y : State) → (b ≡ true → Next at (record x { partial = None })) → (b ≡ false → Next at (record y { partial = None })) → Next at (record (cond b x y) { partial = None })
  clear at true x y f g = f refl
  clear at false x y f g = g refl

  bad_clear : (s : State) (k : TextKind) (at place : ℕ) → H place → (IsMark k → G place) → Next at (record (fail s k place) { partial = None })
  bad_clear s k at place h g = record { kept = λ d. record { mode = (h, g); cut = tt } }

  bad_here : (s : State) (at : ℕ) → H at → Next at (record (fail s kinds.BadMark at) { partial = None })
  bad_here s at h = record { kept = λ d. record { mode = (h, λ _. d tt); cut = tt } }

  unstorable_next : (s : State) (lead at : ℕ) (a : Bool) → H lead → (a ≡ false → G lead) → (a ≡ true → H at) → Next at (record (fail s kinds.BadMark (cond a at lead)) { partial = None })
  unstorable_next s lead at true h g live = bad_here s at (live refl)
  unstorable_next s lead at false h g live = bad_clear s kinds.BadMark at lead h (λ _. g refl)

  element_clear : (s : State) (less lead at c : ℕ) → H less → H lead → (automaton.admits_element s ≡ false → G lead) → Next at (record (steps.begin_element s less lead c) { partial = None })
  element_clear s less lead at c l h g =
      clear at (is_inside s) _ _
      (λ _. clear at (nat_lt (length s.elements) MAX_XMI_NESTING) _ _ (λ _. record { kept = λ d. record { mode = tt; cut = tt } })
      (λ _. bad_clear (record s { ready = states.due s.run }) kinds.Limit at less l (λ x. absurd x)))
      (λ i. clear at s.rooted _ _ (λ r. bad_clear s kinds.BadMark at lead h (λ _. g (cond-false (is_inside s) _ _ i ∙ ap not r)))
      (λ _. record { kept = λ d. record { mode = tt; cut = tt } }))

  admitted_next : (s : State) (m : Mode) (lead at c : ℕ) → NotLess m → Kept s.attr.at m → H lead → (automaton.admits s m ≡ false → G lead) → Next at (record (automaton.admitted s m lead c) { partial = None })
  admitted_next s modes.Inside lead at c l k h g = record { kept = λ d. record { mode = tt; cut = tt } }
  admitted_next s (modes.Cdata held) lead at c l k h g = record { kept = λ d. record { mode = tt; cut = tt } }
  admitted_next s (modes.TagName colon) lead at c l k h g = record { kept = λ d. record { mode = tt; cut = tt } }
  admitted_next s modes.Tag lead at c l k h g = record { kept = λ d. record { mode = h; cut = tt } }
  admitted_next s (modes.AttrName colon) lead at c l k h g = record { kept = λ d. record { mode = k; cut = tt } }
  admitted_next s (modes.Value q) lead at c l k h g = record { kept = λ d. record { mode = tt; cut = tt } }
  admitted_next s modes.Comment lead at c l k h g = record { kept = λ d. record { mode = tt; cut = tt } }
  admitted_next s modes.CommentDash lead at c l k h g = record { kept = λ d. record { mode = tt; cut = tt } }
  admitted_next s modes.CommentDashes lead at c l k h g = record { kept = λ d. record { mode = tt; cut = tt } }
  admitted_next s modes.Question lead at c l k h g = record { kept = λ d. record { mode = tt; cut = tt } }
  admitted_next s (modes.Target colon) lead at c l k h g = record { kept = λ d. record { mode = tt; cut = tt } }
  admitted_next s modes.Instruction lead at c l k h g = record { kept = λ d. record { mode = tt; cut = tt } }
  admitted_next s modes.InstructionQuestion lead at c l k h g = record { kept = λ d. record { mode = tt; cut = tt } }
  admitted_next s (modes.Less less) lead at c l k h g = absurd l
  admitted_next s _ lead at c l k h g = bad_clear s kinds.BadMark at lead h (λ _. g refl)

  whole_next : (s : State) (m : Mode) (lead at c : ℕ) → IsLater m → Kept s.attr.at m → H lead → (automaton.admits s m ≡ false → G lead) → (automaton.admits s m ≡ true → H at) → Next at (record (automaton.whole s m lead at c) { partial = None })
  whole_next s modes.Start lead at c l k h g live = absurd l
  whole_next s (modes.Less less) lead at c l k h g live =
      clear at (automaton.is_unstorable c) _ _ (λ _. unstorable_next s lead at (automaton.admits s (modes.Less less)) h g live) (λ _. element_clear s less lead at c k h g)
  whole_next s m lead at c l k h g live =
      clear at (automaton.is_unstorable c) _ _ (λ _. unstorable_next s lead at (automaton.admits s m) h g live) (λ _. admitted_next s m lead at c tt k h g)

  later_next : (s : State) (m : Mode) (p : Partial) (at : ℕ) (x : Growth) → IsLater m → Led p.lead x → Kept s.attr.at m → H p.lead → (automaton.admits s m ≡ false → G p.lead) → (automaton.admits s m ≡ true → H at) → s.mode ≡ m → Next at (automaton.partial_by s m p.lead at x)
  later_next s m p at growths.Broken l f k h g live e = bad_before s kinds.BadUtf8 at p.lead h (λ x. absurd x)
  later_next s m p at (growths.Partial q) l f k h g live e = record {
    kept = λ d. record {
      mode = subst (Kept s.attr.at) (sym e) k;
      cut = subst (λ (n : Mode). CutKept (record s { partial = Some q }) n (Some q) (at + 1)) (sym e) (cut_of (record s { partial = Some q }) m q (at + 1) l (subst H (sym f) h) (λ a. subst G (sym f) (g (same_admits s q m ∙ a))));
    };
  }
  later_next s m p at (growths.Whole c) l f k h g live e = whole_next s m p.lead at c l k h g live

  -- ---- what may be a byte order mark

  grown : (s : State) (lead at : ℕ) (b : Bool) (x y : Growth) → (b ≡ true → Next at (automaton.partial_by s modes.Start lead at x)) → (b ≡ false → Next at (automaton.partial_by s modes.Start lead at y)) → Next at (automaton.partial_by s modes.Start lead at (cond b x y))
  grown s lead at true x y f g = f refl
  grown s lead at false x y f g = g refl

  mark_next : (s : State) (lead at bits c : ℕ) → H lead → StartKept at lead (rests.One bits) → ((IsNoMark (rests.One bits) → ⊥) → H at) → bits * 64 ≤ c → c < bits * 64 + 64 → Next at (record (automaton.start_whole s lead c) { partial = None })
  mark_next s lead at bits c h k live l u =
      clear at (c == 0xfeff) _ _ (λ _. record { kept = λ d. record { mode = tt; cut = tt } })
      (λ n. clear at (within 0xfec0 0xfefe c) _ _
      (λ w. let r = within_range 0xfec0 0xfefe c w in
      let e : bits ≡ 0x3fb = omega (arith, r.0, r.1, l, u) in
      let two : at ≡ 2 = k.0 e in
      record { kept = λ d. record { mode = (subst H two (live (λ x. both_ways (bits == 0x3fb) x (eq-eqb bits 0x3fb e))), λ _. subst G two (d tt)); cut = tt } })
      (λ v. clear at (within 0xf000 0xffff c) _ _
      (λ w. let r = within_range 0xf000 0xffff c w in
      let one = k.1 (within_from 0x3c0 0x3ff bits (omega (arith, r.0, u)) (omega (arith, r.1, l))) (λ e. no_mark c bits e n v l u) in
      bad_clear s kinds.BadMark at 1 one.0 (λ _. one.1))
      (λ w. bad_clear s kinds.BadMark at lead h (λ _. k.2 (not_within bits c w l u)))))

  found_next : (s : State) (p : Partial) (at bits c : ℕ) (b : Bool) → H p.lead → StartKept at p.lead (rests.One bits) → ((IsNoMark (rests.One bits) → ⊥) → H at) → bits * 64 ≤ c → c < bits * 64 + 64 → Next at (automaton.partial_by s modes.Start p.lead at (utf.found (cond b (Some c) None)))
  found_next s p at bits c true h k live l u = mark_next s p.lead at bits c h k live l u
  found_next s p at bits c false h k live l u = bad_before s kinds.BadUtf8 at p.lead h (λ x. absurd x)

  start_partial : (s : State) (p : Partial) (at : ℕ) (rest : Rest) → s.mode ≡ modes.Start → H p.lead → ((IsNoMark rest → G at) → StartKept (at + 1) p.lead rest) → Next at (automaton.partial_by s modes.Start p.lead at (utf.more p rest))
  start_partial s p at rest e h k =
      let q : Partial = record { lead = p.lead; low = 0x80; high = 0xbf; rest = rest } in
      record {
        kept = λ d. record {
          mode = subst (Kept s.attr.at) (sym e) tt;
          cut = subst (λ (n : Mode). CutKept (record s { partial = Some q }) n (Some q) (at + 1)) (sym e)
              (h, k (subst (λ (n : Mode). IsDead (record s { partial = Some q }) n (Some q) → G at) e d));
        };
      }

  start_added : (s : State) (p : Partial) (rest : Rest) (at b : ℕ) → s.mode ≡ modes.Start → Bits rest p.low p.high → p.low ≤ b → b ≤ p.high → H p.lead → StartKept at p.lead rest → ((IsNoMark rest → ⊥) → H at) → Next at (automaton.partial_by s modes.Start p.lead at (utf.added p rest b))
  start_added s p (rests.Three bits) at b e z l u h k live =
      let low = z.4 in
      let n : bits * 64 + b % 64 ≡ 15 → ⊥ = λ x. not_fifteen bits p.low b (omega (arith, z.1)) (omega (arith, z.3, u)) l low x in
      start_partial s p at (rests.Two (bits * 64 + b % 64)) e h (λ d. (λ x. absurd (n x), λ _. k))
  start_added s p (rests.Two bits) at b e z l u h k live =
      let more : ℕ = bits * 64 + b % 64 in
      start_partial s p at (rests.One more) e h
      (λ d. (
        λ x. let one = k.0 (omega arith) in omega (arith, one),
        λ w n. let r = within_range 0x3c0 0x3ff more w in
            let fifteen : bits ≡ 15 = omega (arith, r.0, r.1) in
            let one = k.0 fifteen in
            (subst H one (live (λ x. both_ways (bits == 15) x (eq-eqb bits 15 fifteen))), subst G one (d (ne_eqb more 0x3fb n))),
        λ w. k.1 (λ x. both_ways (within 0x3c0 0x3ff more) w (within_from 0x3c0 0x3ff more (omega arith) (omega arith))),
      ))
  start_added s p (rests.One bits) at b e z l u h k live =
      grown s p.lead at (nat_lt 0x4fff bits) _ _ (λ _. bad_before s kinds.BadUtf8 at p.lead h (λ x. absurd x))
      (λ _. found_next s p at bits (bits * 64 + b % 64) _ h k live (omega arith) (omega arith))

  start_next : (s : State) (p : Partial) (at b : ℕ) → s.mode ≡ modes.Start → Bits p.rest p.low p.high → H p.lead → StartKept at p.lead p.rest → ((IsNoMark p.rest → ⊥) → H at) → Next at (automaton.partial_by s modes.Start p.lead at (utf.extended p b))
  start_next s p at b e z h k live =
      grown s p.lead at (nat_lt b p.low || nat_lt p.high b) _ _ (λ _. bad_before s kinds.BadUtf8 at p.lead h (λ x. absurd x))
      (λ x. let q = or_parts (nat_lt b p.low) (nat_lt p.high b) x in start_added s p p.rest at b e z (ltb-false b p.low q.0) (ltb-false p.high b q.1) h k live)

  -- ---- one more byte

  later_step : (s : State) (m : Mode) (c : Option Partial) (at b : ℕ) → IsLater m → Takes m → Cut c m → Kept s.attr.at m → CutKept s m c at → ((IsDead s m c → ⊥) → H at) → Next at (automaton.character_by (state s m c) m at b c)
  later_step s (modes.Failed f) c at b l t z k q live = absurd t
  later_step s modes.Start c at b l t z k q live = absurd l
  later_step s (modes.Doctype less word_at matched) c at b l t z k q live = absurd t
  later_step s (modes.EndName less matched) c at b l t z k q live = absurd t
  later_step s (modes.Reference amp place part) c at b l t z k q live = absurd t
  later_step s m None at b l t z k q live =
      either at (nat_lt b 128) (λ _. ascii_next (state s m None) m at b refl t (live (λ x. x)) k) (λ _. lead_next s m at b t (live (λ x. x)) k tt)
  later_step s m (Some p) at b l t z k q live =
      later_next (state s m (Some p)) m p at (utf.extended p b) l (extended_led p b) k q.0 q.1 (λ a. live (λ x. both_ways (automaton.admits s m) x a)) refl

  pub next_kept : (s : State) (m : Mode) (c : Option Partial) (at b : ℕ) → Cut c m → Kept s.attr.at m → CutKept s m c at → ((IsDead s m c → ⊥) → H at) → Next at (step_by (state s m c) at b m)
  next_kept s (modes.Failed f) c at b z k q live = record { kept = λ d. record { mode = k; cut = tt } }
  next_kept s (modes.Doctype less word_at matched) None at b z k q live = doctype_next (state s (modes.Doctype less word_at matched) None) less word_at matched at b refl k.0 k.1 k.2
  next_kept s (modes.Doctype less word_at matched) (Some p) at b z k q live = absurd z.0
  next_kept s (modes.EndName less matched) None at b z k q live =
      let t : State = state s (modes.EndName less matched) None in
      end_name_next t less matched at b (automaton.wanted t matched) refl k (live (λ x. x))
  next_kept s (modes.EndName less matched) (Some p) at b z k q live = absurd z.0
  next_kept s (modes.Reference amp place part) None at b z k q live = reference_next (state s (modes.Reference amp place part) None) amp place part at b refl k
  next_kept s (modes.Reference amp place part) (Some p) at b z k q live = absurd z.0
  next_kept s modes.Start None at b z k q live =
      either at (nat_lt b 128) (λ _. ascii_next (state s modes.Start None) modes.Start at b refl tt (live (λ x. x)) tt) (λ _. lead_next s modes.Start at b tt (live (λ x. x)) tt q)
  next_kept s modes.Start (Some p) at b z k q live = start_next (state s modes.Start (Some p)) p at b refl z.1 q.0 q.1 live
  next_kept s m c at b z k q live = later_step s m c at b tt tt z k q live

  same_cut : (s t : State) (m : Mode) (c : Option Partial) (n : ℕ) → s.elements ≡ t.elements → s.rooted ≡ t.rooted → CutKept s m c n → CutKept t m c n
  same_cut s t (modes.Failed f) c n e r k = tt
  same_cut s t modes.Start None n e r k = k
  same_cut s t m None n e r k = tt
  same_cut s t modes.Start (Some p) n e r k = k
  same_cut s t m (Some p) n e r k = (k.0, λ a. k.1 (admits_same s t m e r ∙ a))

  pub cleared_kept : (s : State) (r : Ready) (n : ℕ) → IsKept s n → IsKept (cleared_by s r) n
  cleared_kept s ready.Nothing n k = k
  cleared_kept s ready.Data n k = record { mode = k.mode; cut = same_cut s (record s { run = []; ready = ready.Nothing }) s.mode s.partial n refl refl k.cut }
  cleared_kept s ready.Open n k = record { mode = k.mode; cut = same_cut s (record s { tag = []; attrs = []; ready = ready.Nothing }) s.mode s.partial n refl refl k.cut }
  cleared_kept s ready.Empty n k = record { mode = k.mode; cut = same_cut s (record s { tag = []; attrs = []; ready = ready.Nothing }) s.mode s.partial n refl refl k.cut }
  cleared_kept s (ready.Close at) n k = record { mode = k.mode; cut = same_cut s (record s { ready = ready.Nothing }) s.mode s.partial n refl refl k.cut }

  -- ---- the bytes end

  abbrev AnyPlaced : Option TextFault → Type 0
  AnyPlaced None = Unit {0}
  AnyPlaced (Some f) = Placed f

  placed : (b : Bool) (f g : TextFault) → (b ≡ true → Placed f) → (b ≡ false → Placed g) → Placed (cond b f g)
  placed true f g x y = x refl
  placed false f g x y = y refl

  open_placed : (rooted : Bool) (n : ℕ) → H n → AnyPlaced (cond rooted None (Some (fault_at kinds.OpenTag n)))
  open_placed true n h = tt
  open_placed false n h = (h, λ x. absurd x)

  start_placed : (s : State) (lead n : ℕ) (rest : Rest) → H lead → StartKept n lead rest → ((IsNoMark rest → ⊥) → H n) → Placed (automaton.cut_start_by lead n rest)
  start_placed s lead n (rests.Three bits) h k live = (h, λ _. k)
  start_placed s lead n (rests.Two bits) h k live =
      placed (bits == 15) (fault_at kinds.OpenTag n) (fault_at kinds.BadMark lead) (λ e. (live (λ x. both_ways (bits == 15) x e), λ x. absurd x)) (λ e. (h, λ _. k.1 (eqb-false bits 15 e)))
  start_placed s lead n (rests.One bits) h k live =
      placed (bits == 0x3fb) (fault_at kinds.OpenTag n) (cond (within 0x3c0 0x3ff bits) (fault_at kinds.BadMark 1) (fault_at kinds.BadMark lead)) (λ e. (live (λ x. both_ways (bits == 0x3fb) x e), λ x. absurd x))
      (λ e. placed (within 0x3c0 0x3ff bits) (fault_at kinds.BadMark 1) (fault_at kinds.BadMark lead) (λ w. let one = k.1 w (eqb-false bits 0x3fb e) in (one.0, λ _. one.1)) (λ w. (h, λ _. k.2 w)))

  end_placed : (s : State) (m : Mode) (c : Option Partial) (n : ℕ) → Kept s.attr.at m → CutKept s m c n → ((IsDead s m c → ⊥) → H n) → AnyPlaced (end_fault_by (state s m c) n m)
  end_placed s (modes.Failed f) c n k q live = k
  end_placed s (modes.Doctype less word_at matched) c n k q live = (k.1, λ _. k.2)
  end_placed s modes.Start (Some p) n k q live = start_placed s p.lead n p.rest q.0 q.1 live
  end_placed s modes.Outside None n k q live = open_placed s.rooted n (live (λ x. x))
  end_placed s m None n k q live = (live (λ x. x), λ x. absurd x)
  end_placed s m (Some p) n k q live =
      placed (automaton.admits s m) (fault_at kinds.OpenTag n) (fault_at kinds.BadMark p.lead) (λ a. (live (λ x. both_ways (automaton.admits s m) x a), λ x. absurd x)) (λ a. (q.0, λ _. q.1 a))

-- ---- all bytes

-- the bytes before a place may go on
Before : List ℕ → ℕ → Type 0
Before bytes p = MayGoOn (take p bytes)

-- those up to it, its byte among them, may not
Through : List ℕ → ℕ → Type 0
Through bytes p = MayGoOn (take (p + 1) bytes) → ⊥

-- a state that nothing makes whole
pub no_more : (bytes : List ℕ) → Dead (state_of bytes) → MayGoOn bytes → ⊥
unfolding end_fault_of
no_more bytes d o =
    let more : List ℕ = completion (state_of bytes) in
    dead_from (length bytes) (state_of bytes) more (length (bytes ++ more)) (sound_of bytes) d
    (ap (λ (t : State). end_fault t (length (bytes ++ more))) (sym (state_of-append bytes more)) ∙ completed bytes o)

-- and one that something does
pub goes_on : (bytes : List ℕ) → (Dead (state_of bytes) → ⊥) → MayGoOn bytes
unfolding end_fault_of
goes_on bytes n =
    let s : State = state_of bytes in
    elim (open_or_dead s s.mode s.partial (length bytes) refl (sound_of bytes).cut) [ inl o ↦ o | inr d ↦ absurd (n d) ]

none_kept : (bytes : List ℕ) → IsKept (Before bytes) (Through bytes) (state_of []) 0
unfolding state_of
none_kept bytes = record { mode = tt; cut = refl }

kept_at : (bytes : List ℕ) (n : ℕ) → n ≤ length bytes → IsKept (Before bytes) (Through bytes) (state_of (take n bytes)) n
unfolding Before Through
kept_at bytes zero h = none_kept bytes
kept_at bytes (suc n) h =
    let front : List ℕ = take n bytes in
    let s : State = state_of front in
    let b : ℕ = get_or bytes n 0 in
    let t : State = step s n b in
    let many : length front ≡ n = length-take-le n bytes (omega arith) in
    let split : take (n + 1) bytes ≡ front ++ b ∷ [] = take_more bytes n 0 (omega arith) in
    let more : suc n ≡ n + 1 = omega arith in
    let is : state_of (take (n + 1) bytes) ≡ cleared t = ap state_of split ∙ state_of-append front (b ∷ []) ∙ ap (λ (k : ℕ). cleared (step s k b)) many in
    let before = kept_at bytes n (omega arith) in
    let next = next_kept (Before bytes) (Through bytes) s s.mode s.partial n b (sound_of front).cut before.mode before.cut (goes_on front) in
    let through : Dead t → Through bytes n = λ d o. no_more (take (n + 1) bytes) (subst Dead (sym is) (dead_cleared t t.ready t.mode t.partial refl refl d)) o in
    let kept : IsKept (Before bytes) (Through bytes) (cleared t) (n + 1) = cleared_kept (Before bytes) (Through bytes) t t.ready (n + 1) (next.kept through) in
    subst (λ (k : ℕ). IsKept (Before bytes) (Through bytes) (state_of (take k bytes)) k) (sym more) (subst (λ (q : State). IsKept (Before bytes) (Through bytes) q (n + 1)) (sym is) kept)

found : (bytes : List ℕ) (f : TextFault) → end_fault_of bytes ≡ Some f → Placed (Before bytes) (Through bytes) f
unfolding end_fault_of Before
found bytes f e =
    let s : State = state_of bytes in
    let n : ℕ = length bytes in
    let all : take n bytes ≡ bytes = take-length bytes in
    let kept : IsKept (Before bytes) (Through bytes) s n = subst (λ (xs : List ℕ). IsKept (Before bytes) (Through bytes) (state_of xs) n) all (kept_at bytes n (omega arith)) in
    let here : (Dead s → ⊥) → Before bytes n = λ d. subst MayGoOn (sym all) (goes_on bytes d) in
    subst (AnyPlaced (Before bytes) (Through bytes)) e (end_placed (Before bytes) (Through bytes) s s.mode s.partial n kept.mode kept.cut here)

pub before_fault : (bytes : List ℕ) (f : TextFault) → end_fault_of bytes ≡ Some f → MayGoOn (take f.at bytes)
unfolding Before
before_fault bytes f e = (found bytes f e).0

pub through_mark : (bytes : List ℕ) (f : TextFault) → end_fault_of bytes ≡ Some f → f.kind ≡ kinds.BadMark → MayGoOn (take (f.at + 1) bytes) → ⊥
unfolding Through
through_mark bytes f e k = (found bytes f e).1 (subst IsMark (sym k) tt)
