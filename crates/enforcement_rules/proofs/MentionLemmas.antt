-- What the walk over an expression collects: what each outer layer names.
use Rattle.std.proofs.Common.{◌≡◌, ◌<◌, ℕ, ◌+◌, List, [], ◌∷◌, ◌++◌, Result, map, length, get_or, refl, sym, ◌∙◌, ap, subst, append_assoc, take}
use Rattle.std.specs.Prelude.{OnOk}
use Rattle.std.proofs.lemmas.List.{take_more, map-append, append-nil}
use Rattle.qv_syntax.specs.declared.typed.Node.{Node, fold-roll-Node}
use Rattle.qv_syntax.specs.declared.typed.Node.TheVariants as nodes
use Rattle.qv_syntax.specs.declared.typed.Call.TheOpen as of
use Rattle.qv_syntax.specs.declared.typed.Typed.{Typed}
use Rattle.qv_syntax.specs.declared.typed.TypedPostfix.{TypedPostfix, fold-roll-TypedPostfix}
use Rattle.qv_syntax.specs.declared.typed.TypedInfix.{TypedInfix, fold-roll-TypedInfix}
use Rattle.enforcement_rules.specs.declared.mention.Mention.TheVariants as mentions
use Rattle.enforcement_rules.specs.Mentions.{L, joined, call_step, node_step, typed_step, infix_step, postfix_step, mentions_in, mentions_of_node, mentions_of_call, mentions_behind, mentions_with}

joined_append : (xs ys : List L) → joined (xs ++ ys) ≡ joined xs ++ joined ys
joined_append [] ys = refl
joined_append (x ∷ xs) ys = ap (λ zs. x ++ zs) (joined_append xs ys) ∙ sym (append_assoc x (joined xs) (joined ys))

-- what is named by one more
pub joined_more : {X : Type 0} (f : X → L) (xs : List X) (i : ℕ) (x : X) → i < length xs → x ≡ get_or xs i x
    → joined (map f (take (i + 1) xs)) ≡ joined (map f (take i xs)) ++ f x
joined_more f xs i x within is =
    ap (λ ys. joined (map f ys)) (take_more xs i x within ∙ ap (λ y. take i xs ++ y ∷ []) (sym is))
    ∙ ap joined (map-append f (take i xs) (x ∷ []))
    ∙ joined_append (map f (take i xs)) (f x ∷ [])
    ∙ ap (λ ys. joined (map f (take i xs)) ++ ys) (append-nil (f x))

-- the same behind others
pub mentions_more : {X : Type 0} (f : X → L) (xs : List X) (i : ℕ) (x : X) (first before after : L) → i < length xs → x ≡ get_or xs i x
    → before ≡ first ++ joined (map f (take i xs)) → after ≡ before ++ f x → after ≡ first ++ joined (map f (take (i + 1) xs))
mentions_more f xs i x first before after within is so_far more =
    more ∙ ap (λ ys. ys ++ f x) so_far ∙ append_assoc first (joined (map f (take i xs))) (f x) ∙ ap (λ ys. first ++ ys) (sym (joined_more f xs i x within is))

-- ---- what is named by an outer layer

pub mentions_of_step : (step : TypedPostfix) → mentions_with step ≡ mentions_of_call step.call
mentions_of_step step = fold-roll-TypedPostfix L L L L L call_step node_step typed_step infix_step postfix_step (record { call = step.call; ty = step.ty })

-- those of the part behind an operator
pub by_link : (link : TypedInfix) → mentions_behind link ≡ mentions_in link.right
by_link link = fold-roll-TypedInfix L L L L L call_step node_step typed_step infix_step postfix_step (record { operator = link.operator; right = link.right; ty = link.ty })

-- ---- what is named by a node, of its parts as they are read

pub let_mentions : (n : Node) (variable : ℕ) (value body v b : Typed) → n ≡ nodes.Let variable value body → v ≡ value → b ≡ body → mentions_of_node n ≡ mentions_in v ++ mentions_in b
let_mentions n variable value body v b is one other =
    ap mentions_of_node (is ∙ sym (nodes.rolls-Let variable value body))
    ∙ fold-roll-Node L L L L L call_step node_step typed_step infix_step postfix_step (of.Let variable value body)
    ∙ ap (λ (t : Typed). mentions_in t ++ mentions_in body) (sym one) ∙ ap (λ (t : Typed). mentions_in v ++ mentions_in t) (sym other)

pub chain_mentions : (n : Node) (first f : Typed) (rest r : List TypedInfix) → n ≡ nodes.Chain first rest → f ≡ first → r ≡ rest
    → mentions_of_node n ≡ mentions_in f ++ joined (map mentions_behind r)
chain_mentions n first f rest r is one other =
    ap mentions_of_node (is ∙ sym (nodes.rolls-Chain first rest))
    ∙ fold-roll-Node L L L L L call_step node_step typed_step infix_step postfix_step (of.Chain first rest)
    ∙ ap (λ (t : Typed). mentions_in t ++ joined (map mentions_behind rest)) (sym one) ∙ ap (λ (ls : List TypedInfix). mentions_in f ++ joined (map mentions_behind ls)) (sym other)

pub postfix_mentions : (n : Node) (part p : Typed) (calls cs : List TypedPostfix) → n ≡ nodes.Calls part calls → p ≡ part → cs ≡ calls
    → mentions_of_node n ≡ mentions_in p ++ joined (map mentions_with cs)
postfix_mentions n part p calls cs is one other =
    ap mentions_of_node (is ∙ sym (nodes.rolls-Calls part calls))
    ∙ fold-roll-Node L L L L L call_step node_step typed_step infix_step postfix_step (of.Calls part calls)
    ∙ ap (λ (t : Typed). mentions_in t ++ joined (map mentions_with calls)) (sym one) ∙ ap (λ (ls : List TypedPostfix). mentions_in p ++ joined (map mentions_with ls)) (sym other)

pub if_mentions : (n : Node) (condition one other c a b : Typed) → n ≡ nodes.If condition one other → c ≡ condition → a ≡ one → b ≡ other
    → mentions_of_node n ≡ (mentions_in c ++ mentions_in a) ++ mentions_in b
if_mentions n condition one other c a b is first second third =
    ap mentions_of_node (is ∙ sym (nodes.rolls-If condition one other))
    ∙ fold-roll-Node L L L L L call_step node_step typed_step infix_step postfix_step (of.If condition one other)
    ∙ ap (λ (t : Typed). mentions_in t ++ (mentions_in one ++ mentions_in other)) (sym first) ∙ ap (λ (t : Typed). mentions_in c ++ (mentions_in t ++ mentions_in other)) (sym second)
    ∙ ap (λ (t : Typed). mentions_in c ++ (mentions_in a ++ mentions_in t)) (sym third) ∙ sym (append_assoc (mentions_in c) (mentions_in a) (mentions_in b))

pub query_mentions : (n : Node) (query : ℕ) (args xs : List Typed) → n ≡ nodes.Query query args → xs ≡ args → mentions_of_node n ≡ (mentions.Query query ∷ []) ++ joined (map mentions_in xs)
query_mentions n query args xs is same =
    ap mentions_of_node (is ∙ sym (nodes.rolls-Query query args))
    ∙ fold-roll-Node L L L L L call_step node_step typed_step infix_step postfix_step (of.Query query args)
    ∙ ap (λ (ts : List Typed). mentions.Query query ∷ joined (map mentions_in ts)) (sym same)

-- two parts, one behind the other
pub both_behind : (calls mid a b whole : L) → mid ≡ calls ++ a → whole ≡ a ++ b → mid ++ b ≡ calls ++ whole
both_behind calls mid a b whole is all = ap (λ xs. xs ++ b) is ∙ append_assoc calls a b ∙ ap (λ xs. calls ++ xs) (sym all)

pub behind_told : {X E : Type 0} (r : Result X E) (new calls mid a b whole : L) → mid ≡ calls ++ a → whole ≡ a ++ b → OnOk r (new ≡ mid ++ b) → OnOk r (new ≡ calls ++ whole)
behind_told r new calls mid a b whole is all more = subst (λ xs. OnOk r (new ≡ xs)) (both_behind calls mid a b whole is all) more
