-- `answering::answer_held` meets its contract: an accepted job is answered, and an error handed on. Assumes nothing.
use Rattle.answering.proofs.answer_held.Goals as goal

pub answer_job-requires : goal.answer_job-requires
answer_job-requires g c = rw c.in-Ok.is at c.requires
