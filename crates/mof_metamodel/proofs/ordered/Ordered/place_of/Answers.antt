use Rattle.std.proofs.Common.{◌≡◌, ◌+◌, ◌-◌, ◌<◌, ap, ◌∙◌, sym, arith}
use Rattle.std.specs.Prelude.{Some}
use Rattle.mof_metamodel.specs.Metamodels.{prop_count, owner_of, first_own}
use Rattle.mof_metamodel.proofs.PlaceLemmas.{placed, unplaced, past_none}
use Rattle.mof_metamodel.proofs.ordered.Ordered.place_of.Goals as goal

pub returns-then-p-prop_count : goal.returns-then-p-prop_count
returns-then-p-prop_count c =
    let count = c.prop_count.ensures ∙ ap prop_count c.named-named.ensures in
    sym (past_none c.args.self.now c.args.p c.args.c (omega (arith, count, c.if-p-prop_count.true)))

pub returns-in_err-start : goal.returns-in_err-start
returns-in_err-start c =
    let count = c.prop_count.ensures ∙ ap prop_count c.named-named.ensures in
    let within : c.args.p < prop_count c.args.self.now = omega (arith, count, c.if-p-prop_count.false) in
    let owner : c.owner-owner.result ≡ owner_of c.args.self.now c.args.p = c.owner-owner.ensures.owner ∙ ap (λ d. owner_of d c.args.p) c.named-named.ensures in
    c.from_residual.ensures ∙ sym (unplaced c.args.self.now c.args.c c.args.p c.owner-owner.result within owner c.in_err-start.ensures)

pub overflow_sub-result : goal.overflow_sub-result
overflow_sub-result c =
    let count = c.prop_count.ensures ∙ ap prop_count c.named-named.ensures in
    let within : c.args.p < prop_count c.args.self.now = omega (arith, count, c.if-p-prop_count.false) in
    let owner : c.owner-owner.result ≡ owner_of c.args.self.now c.args.p = c.owner-owner.ensures.owner ∙ ap (λ d. owner_of d c.args.p) c.named-named.ensures in
    let is = placed c.args.self.now c.args.c c.args.p c.owner-owner.result c.in_ok-start.start within owner c.in_ok-start.ensures in
    let first : c.first_own.result ≡ first_own c.args.self.now c.owner-owner.result = c.first_own.ensures.number ∙ ap (λ d. first_own d c.owner-owner.result) c.named-named.ensures in
    omega (arith, is.own, first)

pub overflow_add-result : goal.overflow_add-result
overflow_add-result c =
    let count = c.prop_count.ensures ∙ ap prop_count c.named-named.ensures in
    let within : c.args.p < prop_count c.args.self.now = omega (arith, count, c.if-p-prop_count.false) in
    let owner : c.owner-owner.result ≡ owner_of c.args.self.now c.args.p = c.owner-owner.ensures.owner ∙ ap (λ d. owner_of d c.args.p) c.named-named.ensures in
    let is = placed c.args.self.now c.args.c c.args.p c.owner-owner.result c.in_ok-start.start within owner c.in_ok-start.ensures in
    let first : c.first_own.result ≡ first_own c.args.self.now c.owner-owner.result = c.first_own.ensures.number ∙ ap (λ d. first_own d c.owner-owner.result) c.named-named.ensures in
    omega (arith, is.within, first, count, c.prop_count.type_inv)

pub returns : goal.returns
returns c =
    let count = c.prop_count.ensures ∙ ap prop_count c.named-named.ensures in
    let within : c.args.p < prop_count c.args.self.now = omega (arith, count, c.if-p-prop_count.false) in
    let owner : c.owner-owner.result ≡ owner_of c.args.self.now c.args.p = c.owner-owner.ensures.owner ∙ ap (λ d. owner_of d c.args.p) c.named-named.ensures in
    let is = placed c.args.self.now c.args.c c.args.p c.owner-owner.result c.in_ok-start.start within owner c.in_ok-start.ensures in
    let first : c.first_own.result ≡ first_own c.args.self.now c.owner-owner.result = c.first_own.ensures.number ∙ ap (λ d. first_own d c.owner-owner.result) c.named-named.ensures in
    ap (λ n. Some (c.in_ok-start.start + (c.args.p - n))) first ∙ sym is.place
