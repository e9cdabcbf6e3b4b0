-- The typing of forms of more than one part, from that of the parts.
use Rattle.std.proofs.Common.{◌≡◌, ◌<◌, ℕ, List, length, Result, Ok, Err, sym, ap, subst, ◌∙◌, arith}
use denote.Param.Weighed.{most}
use Rattle.mof_metamodel.specs.declared.span.Span.{Span}
use Rattle.mof_metamodel.specs.declared.desc.MetaDesc.{MetaDesc}
use Rattle.qv_syntax.specs.declared.name.Name.{Name}
use Rattle.qv_syntax.specs.declared.ty.Ty.{Ty}
use Rattle.qv_syntax.specs.declared.type_tree.TypeTree.{TypeTree}
use Rattle.qv_syntax.specs.declared.expr.Expr.{Expr, roll-Expr, map-Expr, fold-roll-Expr, size-Expr}
use Rattle.qv_syntax.specs.declared.expr.Expr.TheVariants.{Let, Chain, Not, Negated, If, rolls-Let, rolls-Not, rolls-Negated, rolls-If}
use Rattle.qv_syntax.specs.declared.expr.Infix.{Infix, size-Infix}
use Rattle.qv_syntax.specs.declared.expr.Postfix.{Postfix}
use Rattle.qv_syntax.specs.declared.expr.Args.{Args}
use Rattle.qv_syntax.specs.declared.expr.Args.TheOpen as of
use Rattle.qv_syntax.specs.declared.expr.Args.TheViews.{sized-Chain}
use Rattle.ocl_environments.specs.declared.fault.TypeFault.{TypeFault}
use Rattle.ocl_environments.specs.declared.fault.TypeError.{TypeError}
use Rattle.ocl_environments.specs.declared.part.TypedPart.{TypedPart}
use Rattle.ocl_environments.specs.declared.variable.Variable.{Variable}
use Rattle.ocl_environments.specs.Environments.{Environment, with_variable}
use Rattle.ocl_environments.specs.Outcomes.{RuleResult, and_then}
use Rattle.ocl_environments.specs.Scopes.{Reach, in_reach, entered}
use Rattle.ocl_types.specs.TypingScopes.{let_type, let_part}
use Rattle.ocl_environments.specs.Lets.{let_variable}
use Rattle.ocl_types.specs.TypingOperators.{not_rule, negated_rule, if_rule}
use Rattle.ocl_types.specs.Typing.{Meaning, Calling, Operated, Given, meaning, operated_by, calling}
use Rattle.ocl_types.specs.Typing.{given, args_step, expr_step, step_step, link_step, let_typing, if_typing}
use Rattle.mof_metamodel.specs.Giving.{Gives}
use Rattle.ocl_environments.specs.Written.{fault_in}
use Rattle.ocl_environments.proofs.ScopeLaws.{entered_reach}

-- what an expression is, within a scope
abbrev pub at : Expr → Reach → RuleResult TypedPart
at e s = (meaning e).typing (in_reach s)

rolled : (d : of.Expr-F Args Expr Postfix Infix) (e : Expr) → roll-Expr d ≡ e
    → meaning e ≡ expr_step (map-Expr Args Expr Postfix Infix Given Meaning Calling Operated given meaning calling operated_by d)
rolled d e h = ap meaning (sym h) ∙ fold-roll-Expr Given Meaning Calling Operated args_step expr_step step_step link_step d

not_typing : (operand : Expr) (span : Span) (env : Environment) → (meaning (Not operand span)).typing env ≡ and_then ((meaning operand).typing env) (not_rule env.metas)
not_typing operand span env = ap (λ (m : Meaning). m.typing env) (rolled (of.Not operand span) (Not operand span) (rolls-Not operand span))

pub not_given : (r : Result TypedPart TypeError) (operand : Expr) (span : Span) (s s1 : Reach) (metas : List MetaDesc) (p : TypedPart)
    → metas ≡ s1.outer.metas → s1 ≡ s → at operand s ≡ Ok p → Gives fault_in (λ x. x) r (not_rule metas p) → Gives fault_in (λ x. x) r (at (Not operand span) s)
not_given r operand span s s1 metas p is same typed found =
    subst (Gives fault_in (λ x. x) r) (ap (λ m. not_rule m p) (is ∙ ap (λ (t : Reach). t.outer.metas) same)
    ∙ sym (not_typing operand span (in_reach s) ∙ ap (λ o. and_then o (not_rule s.outer.metas)) typed)) found

negated_typing : (operand : Expr) (span : Span) (env : Environment)
    → (meaning (Negated operand span)).typing env ≡ and_then ((meaning operand).typing env) (negated_rule env.metas)
negated_typing operand span env = ap (λ (m : Meaning). m.typing env) (rolled (of.Negated operand span) (Negated operand span) (rolls-Negated operand span))

pub negated_given : (r : Result TypedPart TypeError) (operand : Expr) (span : Span) (s s1 : Reach) (metas : List MetaDesc) (p : TypedPart)
    → metas ≡ s1.outer.metas → s1 ≡ s → at operand s ≡ Ok p → Gives fault_in (λ x. x) r (negated_rule metas p) → Gives fault_in (λ x. x) r (at (Negated operand span) s)
negated_given r operand span s s1 metas p is same typed found =
    subst (Gives fault_in (λ x. x) r) (ap (λ m. negated_rule m p) (is ∙ ap (λ (t : Reach). t.outer.metas) same)
    ∙ sym (negated_typing operand span (in_reach s) ∙ ap (λ o. and_then o (negated_rule s.outer.metas)) typed)) found

if_form : (c a b : Expr) (span : Span) (env : Environment) → (meaning (If c a b span)).typing env
    ≡ if_typing env (meaning c).typing (meaning a).typing (meaning b).typing
if_form c a b span env = ap (λ (m : Meaning). m.typing env) (rolled (of.If c a b span) (If c a b span) (rolls-If c a b span))

pub if_given : (r : Result TypedPart TypeError) (c a b : Expr) (span : Span) (s s1 s2 s3 : Reach) (metas : List MetaDesc) (x y z : TypedPart)
    → metas ≡ s3.outer.metas → s1 ≡ s → s2 ≡ s1 → s3 ≡ s2 → at c s ≡ Ok x → at a s1 ≡ Ok y → at b s2 ≡ Ok z → Gives fault_in (λ x. x) r (if_rule metas x y z)
    → Gives fault_in (λ x. x) r (at (If c a b span) s)
if_given r c a b span s s1 s2 s3 metas x y z is e1 e2 e3 f1 f2 f3 found =
    let g2 : at a s ≡ Ok y = ap (at a) (sym e1) ∙ f2 in
    let g3 : at b s ≡ Ok z = ap (at b) (sym (e2 ∙ e1)) ∙ f3 in
    subst (Gives fault_in (λ x. x) r)
    (ap (λ m. if_rule m x y z) (is ∙ ap (λ (t : Reach). t.outer.metas) (e3 ∙ e2 ∙ e1))
    ∙ sym (if_form c a b span (in_reach s)
    ∙ ap (λ o. and_then o (λ p. and_then (at a s) (λ q. and_then (at b s) (λ t. if_rule s.outer.metas p q t)))) f1
    ∙ ap (λ o. and_then o (λ q. and_then (at b s) (λ t. if_rule s.outer.metas x q t))) g2
    ∙ ap (λ o. and_then o (λ t. if_rule s.outer.metas x y t)) g3)) found

let_form : (n : Name) (ty : TypeTree) (v b : Expr) (span : Span) (env : Environment)
    → (meaning (Let n ty v b span)).typing env ≡ let_typing env n.text ty (meaning v).typing (meaning b).typing
let_form n ty v b span env = ap (λ (m : Meaning). m.typing env) (rolled (of.Let n ty v b span) (Let n ty v b span) (rolls-Let n ty v b span))

-- the body decides, in reach of the variable
let_body : (n : Name) (ty : TypeTree) (v b : Expr) (span : Span) (s s1 s2 : Reach) (metas : List MetaDesc) (name : List ℕ) (t : Ty) (x : TypedPart) (w : Variable)
    → let_type (in_reach s) n.text ty ≡ Ok t → at v s ≡ Ok x → s1 ≡ s → metas ≡ s1.outer.metas → let_variable metas t x ≡ Ok w → name ≡ n.text → s2 ≡ entered s1 name w
    → at (Let n ty v b span) s ≡ and_then (at b s2) (λ p. Ok (let_part (length (in_reach s).variables) x p))
let_body n ty v b span s s1 s2 metas name t x w typed value same is bound named into =
    let env : Environment = in_reach s in
    let rest : Variable → RuleResult TypedPart = λ u. and_then ((meaning b).typing (with_variable env n.text u)) (λ p. Ok (let_part (length env.variables) x p)) in
    let variable : let_variable s.outer.metas t x ≡ Ok w = ap (λ m. let_variable m t x) (sym (is ∙ ap (λ (r : Reach). r.outer.metas) same)) ∙ bound in
    let there : s2 ≡ entered s n.text w = into ∙ ap (λ r. entered r name w) same ∙ ap (λ k. entered s k w) named in
    let reach : with_variable env n.text w ≡ in_reach s2 = sym (ap in_reach there ∙ entered_reach s n.text w) in
    let_form n ty v b span env
    ∙ ap (λ o. and_then o (λ k. and_then (at v s) (λ y. and_then (let_variable s.outer.metas k y)
    (λ u. and_then ((meaning b).typing (with_variable env n.text u)) (λ p. Ok (let_part (length env.variables) y p)))))) typed
    ∙ ap (λ o. and_then o (λ y. and_then (let_variable s.outer.metas t y)
    (λ u. and_then ((meaning b).typing (with_variable env n.text u)) (λ p. Ok (let_part (length env.variables) y p))))) value
    ∙ ap (λ o. and_then o rest) variable
    ∙ ap (λ k. and_then ((meaning b).typing k) (λ p. Ok (let_part (length env.variables) x p))) reach

pub let_done : (n : Name) (ty : TypeTree) (v b : Expr) (span : Span) (s s1 s2 : Reach) (metas : List MetaDesc) (name : List ℕ) (t : Ty) (x : TypedPart) (w : Variable)
    → let_type (in_reach s) n.text ty ≡ Ok t → at v s ≡ Ok x → s1 ≡ s → metas ≡ s1.outer.metas → let_variable metas t x ≡ Ok w → name ≡ n.text → s2 ≡ entered s1 name w
    → (y p : TypedPart) (number : ℕ) → at b s2 ≡ Ok y → number ≡ length (in_reach s).variables → p ≡ let_part number x y → at (Let n ty v b span) s ≡ Ok p
let_done n ty v b span s s1 s2 metas name t x w typed value same is bound named into y p number body counted whole =
    let_body n ty v b span s s1 s2 metas name t x w typed value same is bound named into
    ∙ ap (λ o. and_then o (λ q. Ok (let_part (length (in_reach s).variables) x q))) body
    ∙ ap (λ k. Ok (let_part k x y)) (sym counted) ∙ ap (λ q. Ok q) (sym whole)

pub let_fault : (n : Name) (ty : TypeTree) (v b : Expr) (span : Span) (s s1 s2 : Reach) (metas : List MetaDesc) (name : List ℕ) (t : Ty) (x : TypedPart) (w : Variable)
    → let_type (in_reach s) n.text ty ≡ Ok t → at v s ≡ Ok x → s1 ≡ s → metas ≡ s1.outer.metas → let_variable metas t x ≡ Ok w → name ≡ n.text → s2 ≡ entered s1 name w
    → (f : TypeFault) → at b s2 ≡ Err f → at (Let n ty v b span) s ≡ Err f
let_fault n ty v b span s s1 s2 metas name t x w typed value same is bound named into f fails =
    let_body n ty v b span s s1 s2 metas name t x w typed value same is bound named into ∙ ap (λ o. and_then o (λ p. Ok (let_part (length (in_reach s).variables) x p))) fails

-- the operators of a chain are less deep than the chain
links_below : (first : Expr) (rest : List Infix) (span : Span) → most size-Infix rest < size-Expr (Chain first rest span)
links_below first rest span = let whole = sized-Chain first rest span in omega (arith, whole)

pub links_fall : (e first : Expr) (rest links : List Infix) (span : Span) → e ≡ Chain first rest span → links ≡ rest → most size-Infix links < size-Expr e
links_fall e first rest links span is same =
    subst (λ xs. most size-Infix xs < size-Expr e) (sym same) (subst (λ x. most size-Infix rest < size-Expr x) (sym is) (links_below first rest span))
