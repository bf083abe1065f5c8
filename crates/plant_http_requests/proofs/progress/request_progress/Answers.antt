use Rattle.std.proofs.Common.{◌≡◌, take, ap, sym, ◌∙◌, arith}
use Rattle.plant_http_requests.specs.{head_length}
use Rattle.plant_http_requests.proofs.ComeRequests.{come_found, come_lacks, come_too_long, front_of}
use Rattle.plant_http_requests.proofs.progress.request_progress.Goals as goal

pub returns-in-Some : goal.returns-in-Some
returns-in-Some c =
    let front : c.split_at.result.0.now ≡ take 8192 c.args.bytes.now = rw c.min.ensures at c.split_at.ensures.front ∙ front_of c.args.bytes.now in
    come_found c.args.terms c.args.bytes.now c.in-Some.n c.progress_of_head.result (ap head_length (sym front) ∙ sym c.head_length.ensures.value ∙ c.in-Some.is)
    c.progress_of_head.ensures

pub returns-in-None : goal.returns-in-None
returns-in-None c =
    let front : c.split_at.result.0.now ≡ take 8192 c.args.bytes.now = rw c.min.ensures at c.split_at.ensures.front ∙ front_of c.args.bytes.now in
    come_lacks c.args.terms c.args.bytes.now (ap head_length (sym front) ∙ sym c.head_length.ensures.value ∙ c.in-None.is) c.if-bytes-lt-LONGEST_HEAD.true

pub returns-in-None-2 : goal.returns-in-None-2
returns-in-None-2 c =
    let front : c.split_at.result.0.now ≡ take 8192 c.args.bytes.now = rw c.min.ensures at c.split_at.ensures.front ∙ front_of c.args.bytes.now in
    come_too_long c.args.terms c.args.bytes.now (ap head_length (sym front) ∙ sym c.head_length.ensures.value ∙ c.in-None-2.is) (omega (arith, c.if-bytes-lt-LONGEST_HEAD.false))
