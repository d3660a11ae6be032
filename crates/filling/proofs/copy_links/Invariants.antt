-- The numbers of the links passed stand in the array.
use Rattle.std.proofs.Common.{take}
use Rattle.frame.specs.Job.{fields}
use Rattle.accept.specs.ListJobs.{job_link}
use Rattle.records.specs.Records.{zero_link}
use Rattle.filling.specs.FillLaws.{Copying}
use Rattle.filling.proofs.copy_links.Given as goal

abbrev pub invariant-loop-e : goal.invariant-loop-e
invariant-loop-e st = Copying zero_link (λ l. fields (job_link l)) 4 (take st.count st.fn.links) st.initial.room st.room st.e
