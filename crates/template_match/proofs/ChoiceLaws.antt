-- What gives a variable candidates is a branch of the search.
use Rattle.std.specs.Prelude.{◌≡◌, ◌⊎◌, ℕ, true, false, List, [], Option, None, Some, IfSome, IfNone, is_some, length, slice_get, Contains}
use Rattle.std.specs.List.{find}
use Rattle.std.proofs.Common.{sym, ap, subst, ◌∙◌, ◌<◌, ◌≤◌, ◌+◌, arith, inl, inr, take, get_or}
use Rattle.std.proofs.lemmas.Bool.{and_parts, true≢false}
use Rattle.std.proofs.lemmas.List.{take_more, take_all}
use Rattle.std.proofs.lemmas.Option.{same_Some}
use Rattle.std.proofs.lemmas.List.Elements.{Contains-push_cases}
use Rattle.qv_syntax.specs.declared.program.Conj.{Conj}
use Rattle.qv_syntax.specs.declared.typed.Typed.{Typed}
use Rattle.qvtr_semantics.specs.declared.datum.Datum.{Datum}
use Rattle.qvtr_semantics.specs.Data.{distinct, in_order}
use Rattle.qvtr_semantics.specs.Objects.{held_at}
use Rattle.qvtr_semantics.specs.Expressions.{value_for}
use Rattle.qvtr_semantics.specs.Outs.{datum_of}
use Rattle.qvtr_semantics.specs.Templates.{Values, value_at}
use Rattle.template_match.specs.declared.join.Join.{Join}
use Rattle.template_match.specs.declared.link.Link.{Link}
use Rattle.template_match.specs.declared.branch.Branch.{Branch}
use Rattle.template_match.specs.declared.candidates.Candidates.{Candidates}
use Rattle.template_match.specs.declared.choice.Choice.{Choice}
use Rattle.template_match.specs.declared.told.Told.{Told}
use Rattle.template_match.specs.Asked.{AskedValue, side_asked}
use Rattle.template_match.specs.Branches.{IsBranch, IsChoice, branch_of, TellsHolders, Tells, IsStuck}
use Rattle.template_match.specs.Joins.{IsJoined}
use Rattle.template_match.specs.JoinRows.{TellsRows}
use Rattle.template_match.specs.Posed.{IsPosed, IsSought}
use Rattle.template_match.specs.Problems.{Problem}
use Rattle.template_match.specs.Ready.{is_ready}
use Rattle.template_match.specs.Rows.{one_datum, cell_in, cells_in}
use Rattle.template_match.specs.Settled.{IsTold}
use Rattle.template_match.specs.Search.{sought, conjuncts_in, setting_in, is_open, saying, usable_saying, usable_link, usable_conjunct, usable_variable, extent_for, some_data, data_in}
use Rattle.template_match.specs.Untried.{HasObjects}
use Rattle.template_match.proofs.CellLaws.{cell_among}
use Rattle.template_match.proofs.JoinLaws.{row_to, row_before, row_at, numbered}
use Rattle.template_match.proofs.ListLaws.{find_none}
use Rattle.template_match.proofs.ProgressLaws.{link_named, partner_named, asked_named, saying_named, object_named}
use Rattle.template_match.proofs.SearchLaws.{opened}

module _ (p : Problem) (a : Values) (posed : IsPosed p a) (places : length a ≡ length p.rel.vars) where
  long : (b : Values) → IsSought p a b → length a ≡ length b
  long b whole = places ∙ sym whole.partial.places

  branch_by : (v : ℕ) (ds : List Datum) (branch : Branch) → is_open p a v ≡ true → branch ≡ record { variable = v; candidates = ds }
      → ((b : Values) (d : Datum) → IsSought p a b → value_at b v ≡ Some d → Contains ds d) → IsBranch p a branch
  branch_by v ds branch is same named = subst (IsBranch p a) (sym same) (record { opens = is; named = named })

  choice_by : (v : ℕ) (ds : List Datum) (c : Choice) → is_open p a v ≡ true → c.variable ≡ v → data_in (setting_in p) c.candidates ≡ ds → length (data_in (setting_in p) c.candidates) ≤ c.count
      → ((b : Values) (d : Datum) → IsSought p a b → value_at b v ≡ Some d → Contains ds d) → IsChoice p a c
  choice_by v ds c is variable stand size named = record {
    branch = record {
      opens = ap (is_open p a) variable ∙ is;
      named = λ b d whole at. subst (λ es. Contains es d) (sym stand) (named b d whole (ap (value_at b) (sym variable) ∙ at));
    };
    size = size;
  }

  -- the slot of the object of a link
  pub slot_is : (l : Link) (o : Datum) (c : Choice) → Contains p.links l → is_open p a l.variable ≡ true → value_at a l.holder ≡ Some o → c.variable ≡ l.variable
      → data_in (setting_in p) c.candidates ≡ some_data (held_at (setting_in p) o l.prop.0) → length (data_in (setting_in p) c.candidates) ≤ c.count → IsChoice p a c
  slot_is l o c within is at variable stand size =
      choice_by l.variable (some_data (held_at (setting_in p) o l.prop.0)) c is variable stand size
      (λ b d whole value. link_named p a b a posed whole (long b whole) (λ v e h. h) whole.partial.extends l within o at d value)

  -- the objects at whose property the value of a link's variable stands
  pub partner_is : (l : Link) (o : Datum) (k : Candidates) (c : Choice) → Contains p.links l → is_open p a l.holder ≡ true → value_at a l.variable ≡ Some o
      → TellsHolders p l.holder l.prop.0 (Some o) k → c.variable ≡ l.holder → c.candidates ≡ k → length (data_in (setting_in p) c.candidates) ≤ c.count → IsChoice p a c
  partner_is l o k c within is at tells variable candidates size =
      choice_by l.holder (data_in (setting_in p) k) c is variable (ap (data_in (setting_in p)) candidates) size
      (λ b d whole value. partner_named p a b a posed whole (long b whole) (λ v e h. h) whole.partial.extends l within (opened p a l.holder is).sought_is o at k tells d value)

  -- those in whose slot stands what is asked for
  pub asked_is : (t : AskedValue) (k : Candidates) (c : Choice) → Contains (side_asked p.side p.program p.rel) t → is_open p a t.holder ≡ true → IsTold p a t k → c.variable ≡ t.holder → c.candidates ≡ k
      → length (data_in (setting_in p) c.candidates) ≤ c.count → IsChoice p a c
  asked_is t k c within is told variable candidates size =
      choice_by t.holder (data_in (setting_in p) k) c is variable (ap (data_in (setting_in p)) candidates) size
      (λ b d whole value. asked_named p a b a posed whole (long b whole) (λ v e h. h) whole.partial.extends t within (opened p a t.holder is).sought_is k told d value)

  -- the value of the expression of a conjunct
  pub saying_is : (k : Conj) (v : ℕ) (e : Typed) (branch : Branch) → Contains (conjuncts_in p) k → usable_conjunct p a k ≡ true → saying k ≡ Some (v, e)
      → branch ≡ record { variable = v; candidates = one_datum (datum_of (value_for p.program p.models e a)) } → IsBranch p a branch
  saying_is k v e branch within usable says same =
      let both = and_parts (is_open p a v) (is_ready a e) (ap (usable_saying p a) (sym says) ∙ usable) in
      branch_by v (one_datum (datum_of (value_for p.program p.models e a))) branch both.0 same
      (λ b d whole value. saying_named p a b a posed whole (long b whole) (λ v e h. h) whole.partial.extends k v e within says both.1 d value)

  -- the objects of its class
  pub object_is : (v : ℕ) (branch : Branch) → usable_variable p a v ≡ true → branch.variable ≡ v
      → HasObjects p.models (extent_for (slice_get p.rel.vars v)) branch.candidates → IsBranch p a branch
  object_is v branch usable same has =
      let both = and_parts (is_open p a v) (is_some (extent_for (slice_get p.rel.vars v))) usable in
      record {
        opens = ap (is_open p a) same ∙ both.0;
        named = λ b d whole value.
            has d
            (object_named p a b a posed whole (long b whole) (λ v e h. h) whole.partial.extends v (opened p a v both.0).sought_is both.1 d
            (ap (value_at b) (sym same) ∙ value));
      }

  -- the data in a column of all rows in which the binding may stand
  pub rows_is : (j : Join) (k v : ℕ) (numbers : List ℕ) (c : Choice) → Contains p.joins j → slice_get j.variables k ≡ Some (Some v) → is_open p a v ≡ true → TellsRows j a numbers
      → c.variable ≡ v → data_in (setting_in p) c.candidates ≡ in_order (distinct (cells_in j.table.now k numbers)) → length (data_in (setting_in p) c.candidates) ≤ c.count
      → IsChoice p a c
  rows_is j k v numbers c within column is tells variable stand size =
      choice_by v (in_order (distinct (cells_in j.table.now k numbers))) c is variable stand size (λ b d whole value. named b d whole value (whole.joined j within))
    where
      named : (b : Values) (d : Datum) → IsSought p a b → value_at b v ≡ Some d → IsJoined j b → Contains (in_order (distinct (cells_in j.table.now k numbers))) d
      named b d whole value in_row =
          let row = in_row.0 in
          let r = numbered j.table.now row in_row.1 in
          let cell = row_at j.variables b row k v in_row.2 column in
          let same : cell.0 ≡ d = same_Some cell.0 d (sym cell.2 ∙ value) in
          let told = tells r.0 row r.1 (row_before j.variables a b row whole.partial.extends (row_to j.variables b row in_row.2)) in
          cell_among j.table.now k r.0 numbers d told (ap (cell_in k) r.1 ∙ cell.1 ∙ ap (λ x. Some x) same)

  -- a branch whose candidates are listed
  pub listed_is : (c : Choice) (branch : Branch) → IsChoice p a c → branch ≡ branch_of p c → IsBranch p a branch
  listed_is c branch is same = subst (IsBranch p a) (sym same) is.branch

-- what can't be said of a conjunct that is usable
pub usable_says : (p : Problem) (a : Values) (k : Conj) → usable_conjunct p a k ≡ true → saying k ≡ None → ⊥
usable_says p a k usable says = true≢false (sym usable ∙ ap (usable_saying p a) says)

pub stuck_is : (p : Problem) (a : Values) → ((l : Link) → Contains p.links l → usable_link p a l ≡ false) → ((k : Conj) → Contains (conjuncts_in p) k → usable_conjunct p a k ≡ false)
    → find (usable_variable p a) (sought p) ≡ None → IsStuck p a
stuck_is p a links conjuncts none = record { links = links; conjuncts = conjuncts; variables = λ v c. find_none (usable_variable p a) (sought p) v none c }

-- ---- one of two

pub either_told : (p : Problem) (a : Values) (r x y : Told) → (r ≡ x) ⊎ (r ≡ y) → Tells p a x → Tells p a y → Tells p a r
either_told p a r x y (inl e) one other = subst (Tells p a) (sym e) one
either_told p a r x y (inr e) one other = subst (Tells p a) (sym e) other

pub either_choice : (p : Problem) (a : Values) (r x y : Option Choice) → (r ≡ x) ⊎ (r ≡ y) → IfSome x (IsChoice p a) → IfSome y (IsChoice p a) → IfSome r (IsChoice p a)
either_choice p a r x y (inl e) one other = subst (λ o. IfSome o (IsChoice p a)) (sym e) one
either_choice p a r x y (inr e) one other = subst (λ o. IfSome o (IsChoice p a)) (sym e) other

pub none_of_two : (Q : Type 0) (r x y : Option Choice) → IfNone r ((x ≡ None) × (y ≡ None)) → IfNone x Q → IfNone r Q
none_of_two Q None x y both one = subst (λ o. IfNone o Q) both.0 one
none_of_two Q (Some c) x y both one = tt

-- no link so far can be used
abbrev NoneUsable : Problem → Values → List Link → Type 0
NoneUsable p a ls = (k : Link) → Contains ls k → usable_link p a k ≡ false

pub none_yet : (p : Problem) (a : Values) (best : Option Choice) → best ≡ None → IfNone best (NoneUsable p a [])
none_yet p a best is = subst (λ o. IfNone o (NoneUsable p a [])) (sym is) (λ k c. let (i, within, at) = c in absurd (omega (arith, within)))

pub none_further : (p : Problem) (a : Values) (ls : List Link) (i : ℕ) (d : Link) (r x y : Option Choice) → i < length ls → IfNone r ((x ≡ None) × (y ≡ None))
    → IfNone x (NoneUsable p a (take i ls)) → IfNone y (usable_link p a (get_or ls i d) ≡ false) → IfNone r (NoneUsable p a (take (i + 1) ls))
none_further p a ls i d (Some c) x y within both before here = tt
none_further p a ls i d None x y within both before here = λ k c. by k (Contains-push_cases (take i ls) (get_or ls i d) k (subst (λ ks. Contains ks k) (take_more ls i d within) c))
  where
    earlier : NoneUsable p a (take i ls)
    earlier = subst (λ o. IfNone o (NoneUsable p a (take i ls))) both.0 before

    own : usable_link p a (get_or ls i d) ≡ false
    own = subst (λ o. IfNone o (usable_link p a (get_or ls i d) ≡ false)) both.1 here

    by : (k : Link) → Contains (take i ls) k ⊎ (get_or ls i d ≡ k) → usable_link p a k ≡ false
    by k (inl c) = earlier k c
    by k (inr e) = ap (usable_link p a) (sym e) ∙ own

pub none_at_all : (p : Problem) (a : Values) (ls : List Link) (i : ℕ) (best : Option Choice) → length ls ≤ i → IfNone best (NoneUsable p a (take i ls)) → IfNone best (NoneUsable p a ls)
none_at_all p a ls i best past none = subst (λ ks. IfNone best (NoneUsable p a ks)) (take_all i ls past) none
