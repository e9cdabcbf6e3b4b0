use Rattle.std.proofs.Common.{arith, ◌≡◌, ◌<◌, ◌-◌, ◌∷◌, length, map, ap, inl, refl}
use Rattle.link_arena.specs.Threads.{walk}
use Rattle.link_arena.specs.Lists.{nexts, owners}
use Rattle.link_arena.specs.Twins.{other}
use Rattle.link_arena.proofs.Walks.{listed_here, listed_rest, view_step}
use Rattle.link_arena.proofs.Members.{listed_within}
use Rattle.link_arena.proofs.others.OthersIterator.next.Goals as goal

pub next_of-self-inside-requires : goal.next_of-self-inside-requires
next_of-self-inside-requires c =
    let some : 0 < c.self.inside.left = omega (arith, c.if-self-eq0.false) in
    listed_within (listed_here c.self.inside.joins.now.halves c.self.inside.left c.self.inside.at some c.self.invariant) c.self.inside.at (inl refl)

pub end_of-requires : goal.end_of-requires
end_of-requires c =
    let some : 0 < c.self.inside.left = omega (arith, c.if-self-eq0.false) in
    listed_here c.self.inside.joins.now.halves c.self.inside.left c.self.inside.at some c.self.invariant

pub invariant_of-self : goal.invariant_of-self
invariant_of-self c =
    let some : 0 < c.self.inside.left = omega (arith, c.if-self-eq0.false) in
    listed_rest c.self.inside.joins.now.halves c.self.inside.left c.self.inside.at c.next_of-self-inside.result some c.next_of-self-inside.ensures c.self.invariant

pub returns-clause-steps : goal.returns-clause-steps
returns-clause-steps c =
    let some : 0 < c.self.inside.left = omega (arith, c.if-self-eq0.false) in
    view_step c.self.inside.joins.now.halves c.self.inside.left c.self.inside.at c.next_of-self-inside.result c.end_of.result c.args.self.now some
    c.next_of-self-inside.ensures c.end_of.ensures c.self.view_is

pub returns-clause-goes : goal.returns-clause-goes
returns-clause-goes c =
    let some : 0 < c.self.inside.left = omega (arith, c.if-self-eq0.false) in
    let step : c.args.self.now ≡ c.end_of.result ∷ map (other (owners c.self.inside.joins.now.halves)) (walk (nexts c.self.inside.joins.now.halves) (c.self.inside.left - 1) c.next_of-self-inside.result) =
    view_step c.self.inside.joins.now.halves c.self.inside.left c.self.inside.at c.next_of-self-inside.result c.end_of.result c.args.self.now some
    c.next_of-self-inside.ensures c.end_of.ensures c.self.view_is in
    record { on = λ f. (tt, tt, omega (arith, ap length step)); keeps = tt; rests = λ f. tt }
