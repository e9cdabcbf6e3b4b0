use Rattle.std.proofs.Common.{◌≡◌, ◌≤◌, ℕ, length, take, Option, ap, sym, ◌∙◌, arith}
use Rattle.std.proofs.lemmas.List.{length-take-le}
use Rattle.ocl_parser.proofs.Complete.{one_tree}
use Rattle.ocl_parser.proofs.Local.{spelled_end, spelled_cut}
use Rattle.ocl_parser.proofs.local_laws.one_tree_between.Goals as goal

pub returns : goal.returns
returns c = λ ts n m d e from end first second. (
    let whole : end ≡ length (take end ts) = sym (length-take-le end ts (spelled_end ts n d from end first).1) in
    let within : end ≤ end = omega arith in
    one_tree (take end ts) n m d e from (spelled_cut ts n d from end end first within ∙ ap (λ (x : ℕ). Option.Some x) whole) (spelled_cut ts m e from end end second within ∙ ap (λ (x : ℕ). Option.Some x) whole))
