-- What typing says of an expression of a known form: of a variable, and of a chain of operators.
use Rattle.std.proofs.Common.{◌≡◌, ℕ, List, [], ◌∷◌, Option, None, Some, refl, sym, ap, ◌∙◌, subst}
use Rattle.std.specs.Prelude.{slice_get}
use Rattle.std.proofs.lemmas.Option.{none-some, same_Some}
use Rattle.qv_syntax.specs.declared.ty.Ty.{Ty}
use Rattle.qv_syntax.specs.declared.typed.Typed.{Typed}
use Rattle.qv_syntax.specs.declared.typed.Node.{Node, roll-Node, out-Node, out-roll-Node}
use Rattle.qv_syntax.specs.declared.typed.Node.TheVariants as nodes
use Rattle.qv_syntax.specs.declared.typed.Call.{Call}
use Rattle.qv_syntax.specs.declared.typed.Call.TheOpen as of
use Rattle.qv_syntax.specs.declared.typed.TypedInfix.{TypedInfix}
use Rattle.qv_syntax.specs.declared.typed.TypedPostfix.{TypedPostfix}
use Rattle.qv_syntax.specs.TypeRules.{Operated}
use Rattle.qv_syntax.specs.TypedTrees.{Context, Typing, Variables, IsTyped, IsChained}

abbrev Layer : Type 0
Layer = of.Node-F Call Node Typed TypedInfix TypedPostfix

-- the number of a variable, and the parts of a chain
abbrev number_in : Layer → Option ℕ
number_in (of.Variable n) = Some n
number_in d = None

record Links : Type 0 where
  first : Typed
  rest : List TypedInfix

abbrev links_in : Layer → Option Links
links_in (of.Chain first rest) = Some (record { first = first; rest = rest })
links_in d = None

at_layer : (d : Layer) (node : Node) → roll-Node d ≡ node → out-Node node ≡ d
at_layer d node rolled = ap out-Node (sym rolled) ∙ out-roll-Node d

-- a node of one form is none of another
no_number : (d : Layer) (e : Typed) (n : ℕ) (ty : Ty) → roll-Node d ≡ e.node → number_in d ≡ None → e ≡ record { ty = ty; node = nodes.Variable n } → ⊥
no_number d e n ty rolled none is =
    none-some n (sym none ∙ ap number_in (sym (at_layer d e.node rolled)) ∙ ap (λ (x : Typed). number_in (out-Node x.node)) is ∙ ap number_in (at_layer (of.Variable n) (nodes.Variable n) (nodes.rolls-Variable n)))

no_links : (d : Layer) (e : Typed) (first : Typed) (rest : List TypedInfix) (ty : Ty) → roll-Node d ≡ e.node → links_in d ≡ None → e ≡ record { ty = ty; node = nodes.Chain first rest } → ⊥
no_links d e first rest ty rolled none is =
    none-some (record { first = first; rest = rest }) (sym none ∙ ap links_in (sym (at_layer d e.node rolled)) ∙ ap (λ (x : Typed). links_in (out-Node x.node)) is
    ∙ ap links_in (at_layer (of.Chain first rest) (nodes.Chain first rest) (nodes.rolls-Chain first rest)))

module _ (context : Context) where
  pub variable_typed : (vars : Variables) (e : Typed) (t : Typing) → IsTyped context vars e t → (n : ℕ) (ty : Ty) → e ≡ record { ty = ty; node = nodes.Variable n } → slice_get vars n ≡ Some t
  variable_typed vars e t (IsTyped.number _ value) n ty is = absurd (no_number (of.Number value) e n ty (nodes.rolls-Number value) refl is)
  variable_typed vars e t (IsTyped.string _ text) n ty is = absurd (no_number (of.Str text) e n ty (nodes.rolls-Str text) refl is)
  variable_typed vars e t (IsTyped.boolean _ value) n ty is = absurd (no_number (of.Bool value) e n ty (nodes.rolls-Bool value) refl is)
  variable_typed vars e t (IsTyped.null _) n ty is = absurd (no_number of.Null e n ty nodes.rolls-Null refl is)
  variable_typed vars e t (IsTyped.invalid _) n ty is = absurd (no_number of.Invalid e n ty nodes.rolls-Invalid refl is)
  variable_typed vars e t (IsTyped.enum_literal _ m enumeration place there) n ty is =
      absurd (no_number (of.EnumLiteral m enumeration place) e n ty (nodes.rolls-EnumLiteral m enumeration place) refl is)
  variable_typed vars e t (IsTyped.variable _ number _ at) n ty is =
      let same : number ≡ n = same_Some number n
      (ap number_in (sym (at_layer (of.Variable number) (nodes.Variable number) (nodes.rolls-Variable number))) ∙ ap (λ (x : Typed). number_in (out-Node x.node)) is
      ∙ ap number_in (at_layer (of.Variable n) (nodes.Variable n) (nodes.rolls-Variable n))) in
      subst (λ k. slice_get vars k ≡ Some t) same at
  variable_typed vars e t (IsTyped.let_in _ own value body v _ written given conforms inside) n ty is =
      absurd (no_number (of.Let _ value body) e n ty (nodes.rolls-Let _ value body) refl is)
  variable_typed vars e t (IsTyped.chain _ first rest a own one links) n ty is = absurd (no_number (of.Chain first rest) e n ty (nodes.rolls-Chain first rest) refl is)
  variable_typed vars e t (IsTyped.negation _ operand a one bool) n ty is = absurd (no_number (of.Not operand) e n ty (nodes.rolls-Not operand) refl is)
  variable_typed vars e t (IsTyped.negated _ operand a one int) n ty is = absurd (no_number (of.Negated operand) e n ty (nodes.rolls-Negated operand) refl is)
  variable_typed vars e t (IsTyped.called _ part steps a _ one calls) n ty is = absurd (no_number (of.Calls part steps) e n ty (nodes.rolls-Calls part steps) refl is)
  variable_typed vars e t (IsTyped.branches _ condition one other c a b own model first bool second third goes join) n ty is =
      absurd (no_number (of.If condition one other) e n ty (nodes.rolls-If condition one other) refl is)
  variable_typed vars e t (IsTyped.literal _ kind elements parts own model each goes join) n ty is = absurd (no_number (of.Coll kind elements) e n ty (nodes.rolls-Coll kind elements) refl is)
  variable_typed vars e t (IsTyped.extent _ m model class only) n ty is = absurd (no_number (of.Extent model class) e n ty (nodes.rolls-Extent model class) refl is)
  variable_typed vars e t (IsTyped.query _ number args parts q at each conform) n ty is = absurd (no_number (of.Query number args) e n ty (nodes.rolls-Query number args) refl is)

  -- the first part of a chain is typed, and the operators behind it
  pub record AreLinks (vars : Variables) (first : Typed) (rest : List TypedInfix) : Type 0 where
    pub typing : Typing
    pub last : Ty
    pub typed : IsTyped context vars first typing
    pub chained : IsChained context vars typing.ty rest last

  pub chain_typed : (vars : Variables) (e : Typed) (t : Typing) → IsTyped context vars e t → (first : Typed) (rest : List TypedInfix) (ty : Ty) → e ≡ record { ty = ty; node = nodes.Chain first rest } → AreLinks vars first rest
  chain_typed vars e t (IsTyped.number _ value) first rest ty is = absurd (no_links (of.Number value) e first rest ty (nodes.rolls-Number value) refl is)
  chain_typed vars e t (IsTyped.string _ text) first rest ty is = absurd (no_links (of.Str text) e first rest ty (nodes.rolls-Str text) refl is)
  chain_typed vars e t (IsTyped.boolean _ value) first rest ty is = absurd (no_links (of.Bool value) e first rest ty (nodes.rolls-Bool value) refl is)
  chain_typed vars e t (IsTyped.null _) first rest ty is = absurd (no_links of.Null e first rest ty nodes.rolls-Null refl is)
  chain_typed vars e t (IsTyped.invalid _) first rest ty is = absurd (no_links of.Invalid e first rest ty nodes.rolls-Invalid refl is)
  chain_typed vars e t (IsTyped.enum_literal _ m enumeration place there) first rest ty is =
      absurd (no_links (of.EnumLiteral m enumeration place) e first rest ty (nodes.rolls-EnumLiteral m enumeration place) refl is)
  chain_typed vars e t (IsTyped.variable _ number _ at) first rest ty is = absurd (no_links (of.Variable number) e first rest ty (nodes.rolls-Variable number) refl is)
  chain_typed vars e t (IsTyped.let_in _ own value body v _ written given conforms inside) first rest ty is =
      absurd (no_links (of.Let _ value body) e first rest ty (nodes.rolls-Let _ value body) refl is)
  chain_typed vars e t (IsTyped.chain _ f r a own one links) first rest ty is =
      let same : record { first = f; rest = r } ≡ record { first = first; rest = rest } = same_Some (record { first = f; rest = r }) (record { first = first; rest = rest })
      (ap links_in (sym (at_layer (of.Chain f r) (nodes.Chain f r) (nodes.rolls-Chain f r))) ∙ ap (λ (x : Typed). links_in (out-Node x.node)) is
      ∙ ap links_in (at_layer (of.Chain first rest) (nodes.Chain first rest) (nodes.rolls-Chain first rest))) in
      subst (λ (l : Links). AreLinks vars l.first l.rest) same (record { typing = a; last = own; typed = one; chained = links })
  chain_typed vars e t (IsTyped.negation _ operand a one bool) first rest ty is = absurd (no_links (of.Not operand) e first rest ty (nodes.rolls-Not operand) refl is)
  chain_typed vars e t (IsTyped.negated _ operand a one int) first rest ty is = absurd (no_links (of.Negated operand) e first rest ty (nodes.rolls-Negated operand) refl is)
  chain_typed vars e t (IsTyped.called _ part steps a _ one calls) first rest ty is = absurd (no_links (of.Calls part steps) e first rest ty (nodes.rolls-Calls part steps) refl is)
  chain_typed vars e t (IsTyped.branches _ condition one other c a b own model f bool second third goes join) first rest ty is =
      absurd (no_links (of.If condition one other) e first rest ty (nodes.rolls-If condition one other) refl is)
  chain_typed vars e t (IsTyped.literal _ kind elements parts own model each goes join) first rest ty is = absurd (no_links (of.Coll kind elements) e first rest ty (nodes.rolls-Coll kind elements) refl is)
  chain_typed vars e t (IsTyped.extent _ m model class only) first rest ty is = absurd (no_links (of.Extent model class) e first rest ty (nodes.rolls-Extent model class) refl is)
  chain_typed vars e t (IsTyped.query _ number args parts q at each conform) first rest ty is = absurd (no_links (of.Query number args) e first rest ty (nodes.rolls-Query number args) refl is)

  -- one operator behind a part: the part and the operand are typed, and the operator takes them
  pub record IsOperated (vars : Variables) (a : Ty) (link : TypedInfix) : Type 0 where
    pub typing : Typing
    pub last : Ty
    pub typed : IsTyped context vars link.right typing
    pub operated : Operated context.metas link.operator a typing.ty last

  operated_by : (vars : Variables) (a : Ty) (links : List TypedInfix) (t : Ty) → IsChained context vars a links t → (link : TypedInfix) → links ≡ link ∷ [] → IsOperated vars a link
  operated_by vars a links t (IsChained.no_more _ _) link is = absurd (none-some link (ap (λ (ls : List TypedInfix). slice_get ls 0) is))
  operated_by vars a links t (IsChained.operator _ _ o right b u rest _ one gives more) link is =
      let own : TypedInfix = record { operator = o; right = right; ty = u } in
      subst (IsOperated vars a) (same_Some own link (ap (λ (ls : List TypedInfix). slice_get ls 0) is)) (record { typing = b; last = u; typed = one; operated = gives })

  pub link_typed : (vars : Variables) (a : Ty) (link : TypedInfix) (t : Ty) → IsChained context vars a (link ∷ []) t → IsOperated vars a link
  link_typed vars a link t chained = operated_by vars a (link ∷ []) t chained link refl
