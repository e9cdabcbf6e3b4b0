use Rattle.std.proofs.Common.{◌≤◌, ◌<◌, ◌+◌, ◌-◌, ◌≡◌, ◌∙◌, length, arith}
use Rattle.vault_io.proofs.Steps.{front_on, within_on, smaller_on, whole_file, longer_file}
use Rattle.vault_io.proofs.loading.load.Goals as goal

pub loop-bytes-preserved : goal.loop-bytes-preserved
loop-bytes-preserved g c =
    let place : c.len.result ≡ length c.loop-bytes.bytes.items = omega arith in
    let room : c.in_ok-count.count ≤ length c.read_at.new.into = omega (arith, c.in_ok-count.ensures.count) in
    let fits : c.in_ok-count.count ≤ c.args.limit - c.len-in-loop-bytes.result = c.if-count-limit.false in
    let here : c.len-in-loop-bytes.result ≡ length c.loop-bytes.bytes.items = omega arith in
    record {
      same_files = c.read_at.ensures.files ∙ c.loop-bytes.invariant.same_files;
      later = omega (arith, c.loop-bytes.invariant.later, c.read_at.ensures.faults);
      within = rw c.in_ok-extend_from_slice.ensures.items (within_on _ _ _ _ _ here (omega (arith, c.loop-bytes.invariant.within)) room fits);
      front = rw (c.in_ok-extend_from_slice.ensures.items, c.read_at.ensures.files) (front_on _ _ _ _ _ _ place room c.loop-bytes.invariant.front c.in_ok-count.ensures.bytes);
    }

pub returns-then-count-eq0-clause-bytes : goal.returns-then-count-eq0-clause-bytes
returns-then-count-eq0-clause-bytes g c =
    let place : c.len.result ≡ length c.loop-bytes.bytes.items = omega arith in
    let room : 0 < length c.read_at.new.into = omega arith in
    rw (c.from_vec.ensures, ← c.loop-bytes.invariant.same_files) (whole_file _ _ _ _ _ _ place c.if-count-eq0.true room c.loop-bytes.invariant.front c.in_ok-count.ensures.bytes)

pub returns-then-count-limit-clause-too_long : goal.returns-then-count-limit-clause-too_long
returns-then-count-limit-clause-too_long g c =
    let within : c.len.result ≤ c.args.limit = omega (arith, c.loop-bytes.invariant.within) in
    let past : c.args.limit < c.len.result + c.in_ok-count.count = omega arith in
    λ h. rw (← c.loop-bytes.invariant.same_files) (longer_file _ _ c.read_at.new.into _ _ _ within past c.in_ok-count.ensures.bytes)

pub returns-then-count-limit-clause-failed : goal.returns-then-count-limit-clause-failed
returns-then-count-limit-clause-failed g c = λ h. absurd (cc)

pub loop-bytes-smaller : goal.loop-bytes-smaller
loop-bytes-smaller g c =
    let room : c.in_ok-count.count ≤ length c.read_at.new.into = omega (arith, c.in_ok-count.ensures.count) in
    rw c.in_ok-extend_from_slice.ensures.items (smaller_on _ _ _ _ c.if-count-eq0.false room c.loop-bytes.invariant.within)

pub returns-then-count-limit-clause-bytes : goal.returns-then-count-limit-clause-bytes
returns-then-count-limit-clause-bytes g c = tt
