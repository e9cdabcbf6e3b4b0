use Rattle.std.proofs.Common.{◌≡◌, ◌<◌, ◌+◌, ◌-◌, ℕ, List, subst, arith, length}
use Rattle.std.specs.List.{flat_map, range_with_len}
use Rattle.xmi_text.specs.Calls.{Call, wrote}
use Rattle.xmi_profile.specs.Canon.{top_calls, top_numbers}
use Rattle.xmi_profile.specs.Writable.{Left, calls_at}
use Rattle.xmi_profile.proofs.WritingSteps.{left_start, left_first, left_rest}
use Rattle.xmi_profile.proofs.WritingForms.{tops_by_number, number_next}
use Rattle.xmi_profile.proofs.writing.write_tops.Goals as goal

pub loop-o-init : goal.loop-o-init
loop-o-init c =
    let m = c.args.model.now in
    let tops = flat_map (top_calls m) (top_numbers m) in
    let all : length m.objects ≡ length m.objects - 0 = omega arith in
    subst (λ (n : ℕ). Left c.args.writer.now (flat_map (calls_at m) (range_with_len 0 n)) (wrote c.args.writer.now tops)) all
    (subst (λ (calls : List Call). Left c.args.writer.now calls (wrote c.args.writer.now tops)) (tops_by_number m (range_with_len 0 (length m.objects))) (left_start c.args.writer.now tops c.requires))

pub write_if_top-requires : goal.write_if_top-requires
write_if_top-requires c =
    let m = c.args.model.now in
    let end = wrote c.args.writer.now (flat_map (top_calls m) (top_numbers m)) in
    let short : c.loop-o.o < length m.objects = omega arith in
    left_first c.loop-o.writer end (calls_at m c.loop-o.o) (flat_map (calls_at m) (range_with_len (c.loop-o.o + 1) (length m.objects - (c.loop-o.o + 1))))
    (subst (λ (calls : List Call). Left c.loop-o.writer calls end) (number_next (calls_at m) c.loop-o.o (length m.objects) short) c.loop-o.invariant)

pub loop-o-preserved : goal.loop-o-preserved
loop-o-preserved c =
    let m = c.args.model.now in
    let end = wrote c.args.writer.now (flat_map (top_calls m) (top_numbers m)) in
    let short : c.loop-o.o < length m.objects = omega arith in
    left_rest c.loop-o.writer _ end (calls_at m c.loop-o.o) (flat_map (calls_at m) (range_with_len (c.loop-o.o + 1) (length m.objects - (c.loop-o.o + 1))))
    (subst (λ (calls : List Call). Left c.loop-o.writer calls end) (number_next (calls_at m) c.loop-o.o (length m.objects) short) c.loop-o.invariant) c.in_ok-write_if_top.ensures

pub returns : goal.returns
returns c =
    let m = c.args.model.now in
    let none : length m.objects - c.loop-o.o ≡ 0 = omega arith in
    (subst (λ (n : ℕ). Left c.loop-o.writer (flat_map (calls_at m) (range_with_len c.loop-o.o n)) (wrote c.args.writer.now (flat_map (top_calls m) (top_numbers m)))) none c.loop-o.invariant).1
