-- What led to a state: why a byte is a fault, and of which kind, and how the places of the grammar are come to in which a
-- fault has an earlier place than the byte.
use Rattle.std.proofs.Common.{◌≡◌, ℕ, ◌+◌, ◌≤◌, ◌<◌, ◌⊎◌, Bool, true, false, cond, [], ◌∷◌, ◌++◌, length, refl, sym, subst, Option, Some, None, inl, inr, true≢false, arith}
use Rattle.std.proofs.lemmas.Bool.{ltb-true, ltb-false, eqb-true, lt-leb, and_parts, not-true}
use Rattle.std.specs.Prelude.{nat_lt, ◌==◌, ◌||◌, ◌&&◌, not}
use Rattle.xmi_text.specs.declared.limits.TheConstants.{MAX_XMI_NESTING}
use Rattle.xmi_text.specs.ByteClass.{is_storable_byte, is_blank, begins_name, continues_name, holds_in_name, within}
use Rattle.xmi_text.specs.AttrNames.{has_name}
use Rattle.xmi_text.specs.UtfEight as utf
use Rattle.xmi_text.specs.References as refs
use Rattle.xmi_text.specs.States as states
use Rattle.xmi_text.specs.States.{go, fail, is_inside, around}
use Rattle.xmi_text.specs.Steps as steps
use Rattle.xmi_text.specs.Automaton as automaton
use Rattle.xmi_text.specs.Automaton.{step_by}
use Rattle.xmi_text.specs.declared.error.TextKind.{TextKind}
use Rattle.xmi_text.specs.declared.error.TextKind.TheVariants as kinds
use Rattle.xmi_text.specs.declared.reference.Reference.{Reference}
use Rattle.xmi_text.specs.declared.reference.Reference.TheVariants as ref
use Rattle.xmi_text.specs.declared.utf_eight.Partial.{Partial}
use Rattle.xmi_text.specs.declared.utf_eight.Growth.{Growth}
use Rattle.xmi_text.specs.declared.utf_eight.Growth.TheVariants as growths
use Rattle.xmi_text.specs.declared.state.State.{State}
use Rattle.xmi_text.specs.declared.state.Mode.{Mode}
use Rattle.xmi_text.specs.declared.state.Mode.TheVariants as modes
use Rattle.xmi_text.specs.declared.state.Quote.{Quote}
use Rattle.xmi_text.specs.declared.state.Quote.TheVariants as quotes
use Rattle.xmi_text.specs.declared.state.Within.{Within}
use Rattle.xmi_text.specs.declared.state.Within.TheVariants as places
use Rattle.xmi_text.specs.declared.state.Brackets.{Brackets}
use Rattle.xmi_text.specs.declared.state.Brackets.TheVariants as brackets
use Rattle.xmi_text.proofs.completion.Sound.{Takes, Cut}
use Rattle.xmi_text.proofs.completion.Places.{Fresh, begun_fresh, Led as Leads, extended_led}

abbrev pub Goes : Mode → Type 0
Goes (modes.Failed f) = ⊥
Goes _ = Unit {0}

-- where markup may begin
abbrev pub IsRound : Mode → Type 0
IsRound modes.Start = Unit {0}
IsRound modes.Outside = Unit {0}
IsRound modes.Inside = Unit {0}
IsRound _ = ⊥

-- where a reference may stand
abbrev pub InPlace : Within → Mode → Type 0
InPlace places.Content m = m ≡ modes.Inside
InPlace (places.Value q) m = m ≡ modes.Value q

-- a byte that begins no name, or a second colon
abbrev pub NoName : Mode → ℕ → Type 0
NoName (modes.Less l) b = (b < 128) × ((b == 33) ≡ false) × ((b == 63) ≡ false) × ((b == 47) ≡ false) × (begins_name b ≡ false)
NoName modes.Question b = (b < 128) × (begins_name b ≡ false)
NoName (modes.Target had) b = (had ≡ true) × (b ≡ 58)
NoName (modes.TagName had) b = (had ≡ true) × (b ≡ 58)
NoName (modes.AttrName had) b = (had ≡ true) × (b ≡ 58)
NoName _ b = ⊥

-- the first character of a name
abbrev pub First : Option Partial → ℕ → Type 0
First None b = (b < 128) × (begins_name b ≡ true)
First (Some p) b = (c : ℕ) × (utf.extended p b ≡ growths.Whole c) × (automaton.is_unstorable c ≡ false)

module _ (s : State) (at b : ℕ) where
  -- a byte with which no whole character stands
  abbrev pub NoCharacter : Option Partial → Mode → ℕ → Type 0
  NoCharacter c (modes.Failed f) n = ⊥
  NoCharacter c (modes.Reference a w part) n = ⊥
  NoCharacter c (modes.Doctype l w k) n = ⊥
  NoCharacter c (modes.EndName l k) n = (n ≡ at) × (automaton.wanted s k ≡ None) × (holds_in_name b ≡ false) × (128 ≤ b)
  NoCharacter None m n = (n ≡ at) × (128 ≤ b)
  NoCharacter (Some p) m n = n ≡ p.lead

  abbrev pub TooDeep : Mode → ℕ → Type 0
  TooDeep (modes.Less l) n = (n ≡ l) × (is_inside s ≡ true) × (nat_lt (length s.elements) MAX_XMI_NESTING ≡ false) × First s.partial b
  TooDeep _ n = ⊥

  abbrev pub NoEnd : Mode → ℕ → Type 0
  NoEnd (modes.EndName l k) n = (n ≡ l) × (((w : ℕ) × (automaton.wanted s k ≡ Some w) × ((w == b) ≡ false)) ⊎ ((automaton.wanted s k ≡ None) × (holds_in_name b ≡ true)))
  NoEnd _ n = ⊥

  abbrev pub NoReference : Mode → ℕ → Type 0
  NoReference (modes.Reference a w part) n = n ≡ a
  NoReference _ n = ⊥

  abbrev pub IsWord : Mode → ℕ → Type 0
  IsWord (modes.Doctype l w k) n = (n ≡ l) × (steps.is_wanted (steps.doctype_byte k) b ≡ true) × (nat_lt k 6 ≡ false)
  IsWord _ n = ⊥

  abbrev pub IsTwin : Mode → ℕ → Type 0
  IsTwin (modes.AttrName colon) n = (n ≡ s.attr.at) × (has_name s.attrs s.attr.name ≡ true) × (holds_in_name b ≡ false) × (s.partial ≡ None)
  IsTwin _ n = ⊥

  -- why a byte is a fault, in this mode
  abbrev pub Reason : Mode → TextKind → ℕ → Type 0
  Reason m kinds.BadMark n = Unit {0}
  Reason m kinds.OpenTag n = ⊥
  Reason m kinds.BadUtf8 n = NoCharacter s.partial m n
  Reason m kinds.BadName n = (n ≡ at) × (s.partial ≡ None) × NoName m b
  Reason m kinds.WrongEnd n = NoEnd m n
  Reason m kinds.DuplicateAttribute n = IsTwin m n
  Reason m kinds.BadEntity n = NoReference m n
  Reason m kinds.Doctype n = IsWord m n
  Reason m kinds.Limit n = TooDeep m n

  abbrev pub Same : State → Type 0
  Same t = (t.elements ≡ s.elements) × (t.rooted ≡ s.rooted) × (s.partial ≡ None)

  -- a character that ends with this byte
  abbrev pub Character : ℕ → ℕ → Type 0
  Character c lead = ((s.partial ≡ None) × (c ≡ b) × (b < 128) × (lead ≡ at)) ⊎ ((p : Partial) × (s.partial ≡ Some p) × (utf.extended p b ≡ growths.Whole c) × (automaton.is_unstorable c ≡ false) × (lead ≡ p.lead))

  -- it is the first of an attribute's name, or another
  pub record Opens (t : State) (colon : Bool) : Type 0 where
    pub c : ℕ
    pub lead : ℕ
    pub character : Character c lead
    pub first : s.partial ≡ None → begins_name c ≡ true
    pub plain : colon ≡ false
    pub name : t.attr.name ≡ c ∷ []
    pub place : t.attr.at ≡ lead

  pub record GoesOn (earlier : Bool) (t : State) (colon : Bool) : Type 0 where
    pub c : ℕ
    pub lead : ℕ
    pub character : Character c lead
    pub name : t.attr.name ≡ s.attr.name ++ c ∷ []
    pub place : t.attr.at ≡ s.attr.at
    pub flag : ((c ≡ 58) × (earlier ≡ false) × (colon ≡ true)) ⊎ ((colon ≡ earlier) × (s.partial ≡ None → ((c == 58) ≡ false) × (continues_name c ≡ true)))

  -- how a mode was come to
  abbrev pub From : Mode → State → Mode → Type 0
  From m t (modes.Less l) = Same t × (l ≡ at) × IsRound m × (b ≡ 60)
  From m t (modes.Bang l) = Same t × (m ≡ modes.Less l) × (b ≡ 33)
  From m t modes.Question = Same t × ((l : ℕ) × (m ≡ modes.Less l)) × (b ≡ 63)
  From m t (modes.Doctype l w k) = Same t × (((m ≡ modes.Bang l) × (b ≡ 68) × (k ≡ 1)) ⊎ ((j : ℕ) × (m ≡ modes.Doctype l w j) × (k ≡ j + 1) × (steps.is_wanted (steps.doctype_byte j) b ≡ true) × (j < 6)))
  From m t (modes.EndName l k) = Same t × (((m ≡ modes.Less l) × (b ≡ 47) × (k ≡ 0)) ⊎ ((j : ℕ) × (m ≡ modes.EndName l j) × (k ≡ j + 1) × (automaton.wanted s j ≡ Some b)))
  From m t (modes.Reference a w part) = (s.partial ≡ None) × (((a ≡ at) × InPlace w m × (b ≡ 38)) ⊎ ((earlier : Reference) × (m ≡ modes.Reference a w earlier) × ((b == 59) ≡ false)))
  From m t modes.Tag = is_blank b ≡ true
  From m t (modes.AttrName colon) = ((m ≡ modes.Tag) × Opens t colon) ⊎ ((earlier : Bool) × (m ≡ modes.AttrName earlier) × GoesOn earlier t colon)
  From m t _ = Unit {0}

  -- one more byte of a character
  pub record Grew (t : State) (q : Partial) : Type 0 where
    pub same : t ≡ record s { partial = Some q }
    pub lead : ((s.partial ≡ None) × (q.lead ≡ at) × (utf.begun at b ≡ Some q) × (128 ≤ b)) ⊎ ((p : Partial) × (s.partial ≡ Some p) × (q.lead ≡ p.lead) × (utf.extended p b ≡ growths.Partial q))

  abbrev pub Came : Mode → State → Option Partial → Mode → Type 0
  Came m t c (modes.Failed f) = Reason m f.kind f.at
  Came m t None n = From m t n
  Came m t (Some q) n = Grew t q

  pub record Led (m : Mode) (t : State) : Type 0 where
    pub came : Came m t t.partial t.mode

  either : {x y : State} (m : Mode) (c : Bool) → (c ≡ true → Led m x) → (c ≡ false → Led m y) → Led m (cond c x y)
  either m true f g = f refl
  either m false f g = g refl

  cleared : (m : Mode) (t : State) (c : Option Partial) (n : Mode) → c ≡ None → Goes n → From m t n → Came m t c n
  cleared m t c (modes.Failed f) e g h = absurd g
  cleared m t None n e g h = h
  cleared m t (Some q) n e g h = cc

-- ---- an ASCII byte, or one that is read as one

module _ (s : State) (at b : ℕ) (none : s.partial ≡ None) where
  abbrev To : Mode → State → Type 0
  To m t = Led s at b m t

  on : (m : Mode) (t : State) (n : Mode) → Goes n → From s at b m t n → Came s at b m t s.partial n
  on m t n g h = cleared s at b m t s.partial n none g h

  or : {x y : State} (m : Mode) (c : Bool) → (c ≡ true → To m x) → (c ≡ false → To m y) → To m (cond c x y)
  or m c f g = either s at b m c f g

  round_to : (m : Mode) (t : State) (i : Bool) → Came s at b m t s.partial (cond i modes.Inside modes.Outside)
  round_to m t true = on m t modes.Inside tt tt
  round_to m t false = on m t modes.Outside tt tt

  less_to : (m : Mode) → IsRound m → (b == 60) ≡ true → To m (go s (modes.Less at))
  less_to m r e = record { came = on m (go s (modes.Less at)) (modes.Less at) tt ((refl, refl, none), refl, r, eqb-true b 60 e) }

  amp_to : (m : Mode) (w : Within) → InPlace w m → (b == 38) ≡ true → To m (go s (modes.Reference at w ref.Begun))
  amp_to m w i e = record { came = on m (go s (modes.Reference at w ref.Begun)) (modes.Reference at w ref.Begun) tt (none, inl (refl, i, eqb-true b 38 e)) }

  outside_to : (m : Mode) → IsRound m → To m (steps.outside s at b)
  outside_to m r = or m (b == 60) (λ e. less_to m r e) (λ _. or m (is_blank b) (λ _. record { came = on m (go s modes.Outside) modes.Outside tt tt }) (λ _. record { came = tt }))

  inside_to : To modes.Inside (steps.inside s at b)
  inside_to =
      let m : Mode = modes.Inside in
      or m (b == 60) (λ e. less_to m tt e)
      (λ _. or m (b == 38) (λ e. amp_to m places.Content refl e)
      (λ _. or m (b == 13) (λ _. record { came = on m (states.add s m (10 ∷ []) true) m tt tt })
      (λ _. or m ((b == 10) && s.returned) (λ _. record { came = on m (go s m) m tt tt })
      (λ _. or m (is_storable_byte b) (λ _. record { came = on m (states.add s m (b ∷ []) false) m tt tt }) (λ _. record { came = tt })))))

  bracket_to : (m : Mode) (held : Brackets) → To m (steps.bracket s held)
  bracket_to m brackets.None = record { came = on m (go s (modes.Cdata brackets.One)) (modes.Cdata brackets.One) tt tt }
  bracket_to m brackets.One = record { came = on m (go s (modes.Cdata brackets.Two)) (modes.Cdata brackets.Two) tt tt }
  bracket_to m brackets.Two = record { came = on m (states.add s (modes.Cdata brackets.Two) (93 ∷ []) false) (modes.Cdata brackets.Two) tt tt }

  cdata_to : (m : Mode) (held : Brackets) → To m (steps.cdata s held at b)
  cdata_to m held =
      or m (b == 93) (λ _. bracket_to m held)
      (λ _. or m ((b == 62) && steps.are_two held) (λ _. record { came = on m (go s modes.Inside) modes.Inside tt tt })
      (λ _. or m (b == 13) (λ _. record { came = on m (states.add s states.cdata (states.brackets held ++ 10 ∷ []) true) states.cdata tt tt })
      (λ _. or m ((b == 10) && s.returned) (λ _. record { came = on m (go s states.cdata) states.cdata tt tt })
      (λ _. or m (is_storable_byte b) (λ _. record { came = on m (states.add s states.cdata (states.brackets held ++ b ∷ []) false) states.cdata tt tt }) (λ _. record { came = tt })))))

  element_to : (m : Mode) (l : ℕ) → (is_inside s ≡ true → nat_lt (length s.elements) MAX_XMI_NESTING ≡ false → TooDeep s at b m l) → To m (steps.begin_element s l at b)
  element_to m l deep =
      or m (is_inside s)
      (λ i. or m (nat_lt (length s.elements) MAX_XMI_NESTING) (λ _. record { came = on m (states.begin_tag s l b) (modes.TagName false) tt tt }) (λ f. record { came = deep i f }))
      (λ _. or m s.rooted (λ _. record { came = tt }) (λ _. record { came = on m (states.begin_tag s l b) (modes.TagName false) tt tt }))

  less_step : (l : ℕ) → b < 128 → To (modes.Less l) (steps.less s l at b)
  less_step l h =
      let m : Mode = modes.Less l in
      or m (b == 33) (λ e. record { came = on m (go s (modes.Bang l)) (modes.Bang l) tt ((refl, refl, none), refl, eqb-true b 33 e) })
      (λ x. or m (b == 63) (λ e. record { came = on m (go s modes.Question) modes.Question tt ((refl, refl, none), (l, refl), eqb-true b 63 e) })
      (λ y. or m (b == 47)
      (λ e. or m (is_inside s) (λ _. record { came = on m (states.begin_end s l) (modes.EndName l 0) tt ((refl, refl, none), inl (refl, eqb-true b 47 e, refl)) }) (λ _. record { came = tt }))
      (λ z. or m (begins_name b)
      (λ e. element_to m l (λ i f. (refl, i, f, subst (λ (c : Option Partial). First c b) (sym none) (h, e))))
      (λ e. record { came = (refl, none, (h, x, y, z, e)) }))))

  bang_to : (l : ℕ) → To (modes.Bang l) (steps.bang s l at b)
  bang_to l =
      let m : Mode = modes.Bang l in
      or m (b == 45) (λ _. record { came = on m (go s modes.Dash) modes.Dash tt tt })
      (λ _. or m ((b == 91) && is_inside s) (λ _. record { came = on m (go s (modes.CdataStart 1)) (modes.CdataStart 1) tt tt })
      (λ _. or m (b == 68) (λ e. record { came = on m (go s (modes.Doctype l at 1)) (modes.Doctype l at 1) tt ((refl, refl, none), inl (refl, eqb-true b 68 e, refl)) }) (λ _. record { came = tt })))

  wanted_by : (x : Bool) → not x ≡ false → x ≡ true
  wanted_by true e = refl
  wanted_by false e = absurd (true≢false e)

  doctype_to : (l w k : ℕ) → To (modes.Doctype l w k) (steps.doctype s l w k b)
  doctype_to l w k =
      let m : Mode = modes.Doctype l w k in
      or m (not (steps.is_wanted (steps.doctype_byte k) b)) (λ _. record { came = tt })
      (λ e. or m (nat_lt k 6)
      (λ f. record { came = on m (go s (modes.Doctype l w (k + 1))) (modes.Doctype l w (k + 1)) tt ((refl, refl, none), inr (k, refl, refl, wanted_by (steps.is_wanted (steps.doctype_byte k) b) e, ltb-true k 6 f)) })
      (λ f. record { came = (refl, wanted_by (steps.is_wanted (steps.doctype_byte k) b) e, f) }))

  cdata_start_to : (m : Mode) (k : ℕ) → To m (steps.cdata_start s k at b)
  cdata_start_to m k =
      or m (not (steps.is_wanted (steps.cdata_byte k) b)) (λ _. record { came = tt })
      (λ _. or m (nat_lt k 6) (λ _. record { came = on m (go s (modes.CdataStart (k + 1))) (modes.CdataStart (k + 1)) tt tt }) (λ _. record { came = on m (go s states.cdata) states.cdata tt tt }))

  passed_to : (m n : Mode) → Goes n → From s at b m (go s n) n → To m (steps.passed s n at b)
  passed_to m n g h = or m (is_storable_byte b) (λ _. record { came = on m (go s n) n g h }) (λ _. record { came = tt })

  comment_to : (m dashed : Mode) → Goes dashed → From s at b m (go s dashed) dashed → To m (steps.comment s dashed at b)
  comment_to m dashed g h = or m (b == 45) (λ _. record { came = on m (go s dashed) dashed g h }) (λ _. passed_to m modes.Comment tt tt)

  comment_end_to : (m : Mode) → To m (steps.comment_end s at b)
  comment_end_to m = or m (b == 62) (λ _. record { came = round_to m (go s (around s)) (is_inside s) }) (λ _. comment_to m modes.CommentDashes tt tt)

  question_to : b < 128 → To modes.Question (steps.question s at b)
  question_to h = or modes.Question (begins_name b) (λ _. record { came = on modes.Question (go s (modes.Target false)) (modes.Target false) tt tt }) (λ e. record { came = (refl, none, (h, e)) })

  instruction_to : (m : Mode) → To m (steps.instruction s at b)
  instruction_to m = or m (b == 63) (λ _. record { came = on m (go s modes.InstructionQuestion) modes.InstructionQuestion tt tt }) (λ _. passed_to m modes.Instruction tt tt)

  instruction_end_to : (m : Mode) → To m (steps.instruction_end s at b)
  instruction_end_to m = or m (b == 62) (λ _. record { came = round_to m (go s (around s)) (is_inside s) }) (λ _. instruction_to m)

  target_to : (had : Bool) → To (modes.Target had) (steps.target s had at b)
  target_to had =
      let m : Mode = modes.Target had in
      or m (b == 58) (λ e. or m had (λ h. record { came = (refl, none, (h, eqb-true b 58 e)) }) (λ _. record { came = on m (go s (modes.Target true)) (modes.Target true) tt tt }))
      (λ _. or m (continues_name b) (λ _. record { came = on m (go s (modes.Target had)) (modes.Target had) tt tt }) (λ _. instruction_to m))

  part_to : (m : Mode) → To m (steps.part s at b)
  part_to m =
      or m (b == 47) (λ _. record { came = on m (go s modes.Slash) modes.Slash tt tt })
      (λ _. or m (b == 62) (λ _. record { came = on m (states.open_tag s at) modes.Inside tt tt }) (λ _. or m (is_blank b) (λ e. record { came = on m (go s modes.Tag) modes.Tag tt e }) (λ _. record { came = tt })))

  tag_name_to : (had : Bool) → To (modes.TagName had) (steps.tag_name s had at b)
  tag_name_to had =
      let m : Mode = modes.TagName had in
      or m (b == 58) (λ e. or m had (λ h. record { came = (refl, none, (h, eqb-true b 58 e)) }) (λ _. record { came = on m (states.add_to_tag s true 58) (modes.TagName true) tt tt }))
      (λ _. or m (continues_name b) (λ _. record { came = on m (states.add_to_tag s had b) (modes.TagName had) tt tt }) (λ _. part_to m))

  tag_to : b < 128 → To modes.Tag (steps.tag s at b)
  tag_to h =
      let m : Mode = modes.Tag in
      or m (begins_name b)
      (λ e. record { came = on m (states.begin_attr s at b) (modes.AttrName false) tt (inl (refl, record { c = b; lead = at; character = inl (none, refl, h, refl); first = λ _. e; plain = refl; name = refl; place = refl })) })
      (λ _. part_to m)

  equals_to : (m : Mode) → To m (steps.equals s at b)
  equals_to m =
      or m (b == 61) (λ _. record { came = on m (go s modes.BeforeValue) modes.BeforeValue tt tt }) (λ _. or m (is_blank b) (λ _. record { came = on m (go s modes.AfterName) modes.AfterName tt tt }) (λ _. record { came = tt }))

  no_name_byte : b < 128 → (b == 58) ≡ false → continues_name b ≡ false → holds_in_name b ≡ false
  no_name_byte h x y = rw (y, x, lt-leb 128 b h, lt-leb 0xc2 b (omega arith)) refl

  attr_name_to : (had : Bool) → b < 128 → To (modes.AttrName had) (steps.attr_name s had at b)
  attr_name_to had h =
      let m : Mode = modes.AttrName had in
      or m (b == 58) (λ e. or m had (λ k. record { came = (refl, none, (k, eqb-true b 58 e)) }) (λ k. record { came = on m (states.add_to_name s true 58) (modes.AttrName true) tt (inr (had, refl, record { c = 58; lead = at; character = inl (none, sym (eqb-true b 58 e), h, refl); name = refl; place = refl; flag = inl (refl, k, refl) })) }))
      (λ x. or m (continues_name b) (λ e. record { came = on m (states.add_to_name s had b) (modes.AttrName had) tt (inr (had, refl, record { c = b; lead = at; character = inl (none, refl, h, refl); name = refl; place = refl; flag = inr (refl, λ _. (x, e)) })) })
      (λ y. or m (has_name s.attrs s.attr.name) (λ e. record { came = (refl, e, no_name_byte h x y, none) }) (λ _. equals_to m)))

  before_value_to : (m : Mode) → To m (steps.before_value s at b)
  before_value_to m =
      or m (b == 34) (λ _. record { came = on m (go s (modes.Value quotes.Double)) (modes.Value quotes.Double) tt tt })
      (λ _. or m (b == 39) (λ _. record { came = on m (go s (modes.Value quotes.Single)) (modes.Value quotes.Single) tt tt })
      (λ _. or m (is_blank b) (λ _. record { came = on m (go s modes.BeforeValue) modes.BeforeValue tt tt }) (λ _. record { came = tt })))

  value_to : (q : Quote) → To (modes.Value q) (steps.value s q at b)
  value_to q =
      let m : Mode = modes.Value q in
      or m (b == steps.quote_byte q) (λ _. record { came = on m (states.end_attr s) modes.AfterValue tt tt })
      (λ _. or m (b == 60) (λ _. record { came = tt })
      (λ _. or m (b == 38) (λ e. amp_to m (places.Value q) refl e)
      (λ _. or m (b == 13) (λ _. record { came = on m (states.add_to_value s q 32 true) m tt tt })
      (λ _. or m ((b == 10) && s.returned) (λ _. record { came = on m (go s m) m tt tt })
      (λ _. or m ((b == 10) || (b == 9)) (λ _. record { came = on m (states.add_to_value s q 32 false) m tt tt })
      (λ _. or m (is_storable_byte b) (λ _. record { came = on m (states.add_to_value s q b false) m tt tt }) (λ _. record { came = tt })))))))

  slash_to : (m : Mode) → To m (steps.slash s at b)
  slash_to m = or m (b == 62) (λ _. record { came = round_to m (states.empty_tag s at) (is_inside s) }) (λ _. record { came = tt })

  tail_to : (m : Mode) (l : ℕ) → To m (steps.tail s l at b)
  tail_to m l =
      or m (b == 62) (λ _. record { came = round_to m (states.close_tag s l at) (is_inside (states.left s)) })
      (λ _. or m (is_blank b) (λ _. record { came = on m (go s (modes.EndTail l)) (modes.EndTail l) tt tt }) (λ _. record { came = tt }))

  reference_ends : (a : ℕ) (w : Within) (part : Reference) (c : Option ℕ) → To (modes.Reference a w part) (automaton.reference_to s a w c)
  reference_ends a places.Content part None = record { came = refl }
  reference_ends a (places.Value q) part None = record { came = refl }
  reference_ends a places.Content part (Some c) = record { came = on (modes.Reference a places.Content part) (states.add s modes.Inside (c ∷ []) false) modes.Inside tt tt }
  reference_ends a (places.Value q) part (Some c) = record { came = on (modes.Reference a (places.Value q) part) (states.add_to_value s q c false) (modes.Value q) tt tt }

  reference_goes : (a : ℕ) (w : Within) (part : Reference) (more : Option Reference) → (b == 59) ≡ false → To (modes.Reference a w part) (automaton.reference_on s a w more)
  reference_goes a w part None e = record { came = refl }
  reference_goes a w part (Some more) e = record { came = on (modes.Reference a w part) (go s (modes.Reference a w more)) (modes.Reference a w more) tt (none, inr (part, refl, e)) }

  reference_step : (a : ℕ) (w : Within) (part : Reference) → To (modes.Reference a w part) (automaton.reference s a w part b)
  reference_step a w part =
      or (modes.Reference a w part) (b == 59) (λ _. reference_ends a w part (refs.character part)) (λ e. reference_goes a w part (refs.extended part b) e)

  not_character : (l k : ℕ) → automaton.wanted s k ≡ None → holds_in_name b ≡ false → 128 ≤ b → NoCharacter s at b s.partial (modes.EndName l k) at
  not_character l k e f h = subst (λ (c : Option Partial). NoCharacter s at b c (modes.EndName l k) at) (sym none) (refl, e, f, h)

  end_name_to : (l k : ℕ) (w : Option ℕ) → automaton.wanted s k ≡ w → To (modes.EndName l k) (automaton.end_name_by s l k at b w)
  end_name_to l k None e =
      let m : Mode = modes.EndName l k in
      or m (holds_in_name b) (λ h. record { came = (refl, inr (e, h)) })
      (λ h. or m (nat_lt b 128) (λ _. tail_to m l) (λ x. record { came = not_character l k e h (ltb-false b 128 x) }))
  end_name_to l k (Some w) e =
      let m : Mode = modes.EndName l k in
      or m (w == b)
      (λ h. record { came = on m (go s (modes.EndName l (k + 1))) (modes.EndName l (k + 1)) tt ((refl, refl, none), inr (k, refl, refl, subst (λ (x : ℕ). automaton.wanted s k ≡ Some x) (eqb-true w b h) e)) })
      (λ h. record { came = (refl, inl (w, e, h)) })

  ascii_to : (m : Mode) → Takes m → b < 128 → To m (automaton.ascii s m at b)
  ascii_to modes.Start t h = outside_to modes.Start tt
  ascii_to modes.Outside t h = outside_to modes.Outside tt
  ascii_to modes.Inside t h = inside_to
  ascii_to (modes.Less l) t h = less_step l h
  ascii_to (modes.Bang l) t h = bang_to l
  ascii_to modes.Dash t h = or modes.Dash (b == 45) (λ _. record { came = on modes.Dash (go s modes.Comment) modes.Comment tt tt }) (λ _. record { came = tt })
  ascii_to modes.Comment t h = comment_to modes.Comment modes.CommentDash tt tt
  ascii_to modes.CommentDash t h = comment_to modes.CommentDash modes.CommentDashes tt tt
  ascii_to modes.CommentDashes t h = comment_end_to modes.CommentDashes
  ascii_to (modes.Doctype l w k) t h = absurd t
  ascii_to (modes.CdataStart k) t h = cdata_start_to (modes.CdataStart k) k
  ascii_to (modes.Cdata held) t h = cdata_to (modes.Cdata held) held
  ascii_to modes.Question t h = question_to h
  ascii_to (modes.Target had) t h = target_to had
  ascii_to modes.Instruction t h = instruction_to modes.Instruction
  ascii_to modes.InstructionQuestion t h = instruction_end_to modes.InstructionQuestion
  ascii_to (modes.TagName had) t h = tag_name_to had
  ascii_to modes.Tag t h = tag_to h
  ascii_to (modes.AttrName had) t h = attr_name_to had h
  ascii_to modes.AfterName t h = equals_to modes.AfterName
  ascii_to modes.BeforeValue t h = before_value_to modes.BeforeValue
  ascii_to (modes.Value q) t h = value_to q
  ascii_to modes.AfterValue t h = part_to modes.AfterValue
  ascii_to modes.Slash t h = slash_to modes.Slash
  ascii_to (modes.EndName l k) t h = absurd t
  ascii_to (modes.EndTail l) t h = tail_to (modes.EndTail l) l
  ascii_to (modes.Reference a w part) t h = absurd t
  ascii_to (modes.Failed f) t h = absurd t

  -- the first byte of a character
  twin_to : (m : Mode) → automaton.ends_twin s m b ≡ true → IsTwin s at b m s.attr.at
  twin_to (modes.AttrName colon) e =
      let p = and_parts (not (holds_in_name b)) (has_name s.attrs s.attr.name) e in
      (refl, p.1, not-true (holds_in_name b) p.0, none)
  twin_to _ e = absurd (true≢false (sym e))

  no_lead : (m : Mode) → Takes m → 128 ≤ b → NoCharacter s at b s.partial m at
  no_lead m t h = subst (λ (c : Option Partial). NoCharacter s at b c m at) (sym none) (plain m t)
    where
      plain : (m : Mode) → Takes m → NoCharacter s at b None m at
      plain (modes.Failed f) t = absurd t
      plain (modes.Reference a w part) t = absurd t
      plain (modes.Doctype l w k) t = absurd t
      plain (modes.EndName l k) t = absurd t
      plain _ t = (refl, h)

  grown : (m n : Mode) (t : State) (q : Partial) → Goes n → Grew s at b t q → Came s at b m t (Some q) n
  grown m (modes.Failed f) t q g h = absurd g
  grown m _ t q g h = h

takes_goes : (m : Mode) → Takes m → Goes m
takes_goes (modes.Failed f) t = absurd t
takes_goes _ t = tt

module _ (s : State) (at b : ℕ) where
  lead_to : (m : Mode) (c : Option Partial) → s.mode ≡ m → s.partial ≡ None → Takes m → 128 ≤ b → ((q : Partial) → c ≡ Some q → (q.lead ≡ at) × (utf.begun at b ≡ Some q)) → Led s at b m (automaton.lead_on s at c)
  lead_to m None e none t h f = record { came = no_lead s at b none m t h }
  lead_to m (Some q) e none t h f =
      record { came = subst (λ (n : Mode). Came s at b m (record s { partial = Some q }) (Some q) n) (sym e) (grown s at b none m m (record s { partial = Some q }) q (takes_goes m t) (record { same = refl; lead = inl (none, (f q refl).0, (f q refl).1, h) })) }

  begun_at : (q : Partial) → utf.begun at b ≡ Some q → q.lead ≡ at
  begun_at q e = (subst (Fresh at) e (begun_fresh at b)).0

  first_to : (m : Mode) → s.mode ≡ m → s.partial ≡ None → Takes m → 128 ≤ b → Led s at b m (automaton.lead s m at b)
  first_to m e none t h =
      either s at b m (automaton.ends_twin s m b) (λ x. record { came = twin_to s at b none m x }) (λ _. lead_to m (utf.begun at b) e none t h (λ q x. (begun_at q x, x)))

  -- ---- a whole character

  record Whole (m : Mode) (t : State) : Type 0 where
    came : Came s at b m (record t { partial = None }) None t.mode

  whole : {x y : State} (m : Mode) (c : Bool) → (c ≡ true → Whole m x) → (c ≡ false → Whole m y) → Whole m (cond c x y)
  whole m true f g = f refl
  whole m false f g = g refl

  cut_name : (p : Partial) → s.partial ≡ Some p → s.partial ≡ None → ⊥
  cut_name p e f = cc

  admitted_to : (m : Mode) (p : Partial) (c : ℕ) → s.partial ≡ Some p → utf.extended p b ≡ growths.Whole c → automaton.is_unstorable c ≡ false → Whole m (automaton.admitted s m p.lead c)
  admitted_to modes.Inside p c e w u = record { came = tt }
  admitted_to (modes.Cdata held) p c e w u = record { came = tt }
  admitted_to (modes.TagName colon) p c e w u = record { came = tt }
  admitted_to modes.Tag p c e w u = record { came = inl (refl, record { c = c; lead = p.lead; character = inr (p, e, w, u, refl); first = λ n. absurd (cut_name p e n); plain = refl; name = refl; place = refl }) }
  admitted_to (modes.AttrName colon) p c e w u = record { came = inr (colon, refl, record { c = c; lead = p.lead; character = inr (p, e, w, u, refl); name = refl; place = refl; flag = inr (refl, λ n. absurd (cut_name p e n)) }) }
  admitted_to (modes.Value q) p c e w u = record { came = tt }
  admitted_to modes.Comment p c e w u = record { came = tt }
  admitted_to modes.CommentDash p c e w u = record { came = tt }
  admitted_to modes.CommentDashes p c e w u = record { came = tt }
  admitted_to modes.Question p c e w u = record { came = tt }
  admitted_to (modes.Target colon) p c e w u = record { came = tt }
  admitted_to modes.Instruction p c e w u = record { came = tt }
  admitted_to modes.InstructionQuestion p c e w u = record { came = tt }
  admitted_to _ p c e w u = record { came = tt }

  whole_to : (m : Mode) (p : Partial) (c : ℕ) → s.partial ≡ Some p → utf.extended p b ≡ growths.Whole c → Whole m (automaton.whole s m p.lead at c)
  whole_to modes.Start p c e w =
      let m : Mode = modes.Start in
      whole m (c == 0xfeff) (λ _. record { came = tt }) (λ _. whole m (within 0xfec0 0xfefe c) (λ _. record { came = tt }) (λ _. whole m (within 0xf000 0xffff c) (λ _. record { came = tt }) (λ _. record { came = tt })))
  whole_to (modes.Less l) p c e w =
      let m : Mode = modes.Less l in
      whole m (automaton.is_unstorable c) (λ _. record { came = tt })
      (λ u. whole m (is_inside s)
      (λ i. whole m (nat_lt (length s.elements) MAX_XMI_NESTING) (λ _. record { came = tt })
      (λ f. record { came = (refl, i, f, subst (λ (k : Option Partial). First k b) (sym e) (c, w, u)) }))
      (λ _. whole m s.rooted (λ _. record { came = tt }) (λ _. record { came = tt })))
  whole_to m p c e w = whole m (automaton.is_unstorable c) (λ _. record { came = tt }) (λ u. admitted_to m p c e w u)

  broken_at : (m : Mode) (p : Partial) → Takes m → NoCharacter s at b (Some p) m p.lead
  broken_at (modes.Failed f) p t = absurd t
  broken_at (modes.Reference a w part) p t = absurd t
  broken_at (modes.Doctype l w k) p t = absurd t
  broken_at (modes.EndName l k) p t = absurd t
  broken_at _ p t = refl

  grown_on : (m : Mode) (p q : Partial) → Takes m → s.mode ≡ m → s.partial ≡ Some p → q.lead ≡ p.lead → utf.extended p b ≡ growths.Partial q → Led s at b m (record s { partial = Some q })
  grown_on m p q t e k l w = record { came = subst (λ (n : Mode). Came s at b m (record s { partial = Some q }) (Some q) n) (sym e) (by m t) }
    where
      by : (n : Mode) → Takes n → Came s at b m (record s { partial = Some q }) (Some q) n
      by (modes.Failed f) t = absurd t
      by _ t = record { same = refl; lead = inr (p, k, l, w) }

  partial_to : (m : Mode) (p : Partial) (g : Growth) → utf.extended p b ≡ g → s.partial ≡ Some p → s.mode ≡ m → Takes m → Led s at b m (automaton.partial_by s m p.lead at g)
  partial_to m p growths.Broken w k e t = record { came = subst (λ (c : Option Partial). NoCharacter s at b c m p.lead) (sym k) (broken_at m p t) }
  partial_to m p (growths.Partial q) w k e t = grown_on m p q t e k (subst (Leads p.lead) w (extended_led p b)) w
  partial_to m p (growths.Whole c) w k e t = record { came = (whole_to m p c k w).came }

-- one more byte
pub step_led : (s : State) (at b : ℕ) (m : Mode) (c : Option Partial) → s.mode ≡ m → s.partial ≡ c → Cut c m → Goes m → Led s at b m (step_by s at b m)
step_led s at b (modes.Failed f) c e k z g = absurd g
step_led s at b (modes.Reference a w part) None e k z g = reference_step s at b k a w part
step_led s at b (modes.Reference a w part) (Some p) e k z g = absurd z.0
step_led s at b (modes.Doctype l w n) None e k z g = doctype_to s at b k l w n
step_led s at b (modes.Doctype l w n) (Some p) e k z g = absurd z.0
step_led s at b (modes.EndName l n) None e k z g = end_name_to s at b k l n (automaton.wanted s n) refl
step_led s at b (modes.EndName l n) (Some p) e k z g = absurd z.0
step_led s at b m None e k z g =
    subst (λ (c : Option Partial). Led s at b m (automaton.character_by s m at b c)) (sym k)
    (either s at b m (nat_lt b 128) (λ h. ascii_to s at b k m tt (ltb-true b 128 h)) (λ h. first_to s at b m e k tt (ltb-false b 128 h)))
step_led s at b m (Some p) e k z g =
    subst (λ (c : Option Partial). Led s at b m (automaton.character_by s m at b c)) (sym k) (partial_to s at b m p (utf.extended p b) refl k e tt)
