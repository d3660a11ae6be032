-- Links as a list of records: the job that they make. Definitions only. Assumes nothing.
use Rattle.std.specs.Prelude.{ℕ, List, map}
use Rattle.records.specs.declared.Link.{Link}
use Rattle.frame.specs.Job.{JobLink, Job}

abbrev pub job_link : Link → JobLink
job_link l = record { end₁ = l.end1; end₂ = l.end2; cost = l.cost; mark = l.mark }

abbrev pub list_job : ℕ → List Link → Job
list_job nodes ys = record { nodes = nodes; links = map job_link ys }
