-- What the threads of a list of jobs give back.
use Rattle.std.proofs.Common.{◌≡◌, slice_index_or, Result, Ok, Err, IfOk, Vec, vec_len, sym, subst, arith}
use denote.Param.Members.{Shared}
use Rattle.std.specs.Fork.{GivesJobs}
use Rattle.std.specs.declared.alloc.AllocError.{AllocError}
use Rattle.std.specs.declared.alloc.Global.{Global}
use Rattle.rapid_text.specs.Recording.{Recording}
use Rattle.calls.specs.Jobs.{Job, Told, AnswersJob, AnswerJobs}

-- where each call of f makes the calls of its job, so it was with all jobs
pub jobs_answered : {F : Type 0} (g : Shared F (Job × Unit {0}) Told) (f : F) (trace : Recording) (jobs : Vec Job Global) (r : Result (Vec Told Global) AllocError)
    → IfOk r (λ v. vec_len v ≡ vec_len jobs) → IfOk r (λ v. GivesJobs g f jobs.items v.items) → ((job : Job) (t : Told) → g.post f (job, tt) t → AnswersJob trace job t)
    → IfOk r (λ v. AnswerJobs trace jobs.items v.items)
jobs_answered g f trace jobs (Ok v) len each step =
    (omega (arith, len, v.ok.0, jobs.ok.0), λ i d e below. let one = (each i d below).1 in subst (λ j. AnswersJob trace j (slice_index_or v.items i d)) (sym (one.job_is e)) (step one.job (slice_index_or v.items i d) one.call.met))
jobs_answered g f trace jobs (Err refused) len each step = tt
