-- What advice on a job is said with: the changed jobs that the choice is asked about. No definition knows a width.
use Rattle.std.specs.Prelude.{not, ◌||◌, cond, List, [], ◌∷◌, ℕ, suc, eqb, drop}
use Rattle.std.proofs.Math.Option.{Option}
use Rattle.sets.specs.Ranges.{given}
use Rattle.sets.specs.Sets.{◌∈◌, member, without, set_of}
use Rattle.jobfile.specs.Job.{Record, Job, order}
use Rattle.network.specs.Network.{Network, network_of, clash}
use Rattle.choice.specs.Choice.{selection}

-- no member of x is in out
abbrev pub Apart : ℕ → ℕ → Type 0
Apart x out = (u : ℕ) → u ∈ x → u ∈ out → ⊥

-- ---- networks

-- the articles of out carry no wishes; all else is as it was
abbrev pub emptied : Network → ℕ → Network
emptied N out = record { articles = N.articles; wishes = λ u. given (not (member out u)) (N.wishes u); clashes = N.clashes }

-- what v bars: itself, and every article that it clashes with
unfoldable pub barred : Network → ℕ → ℕ
barred N v = set_of N.articles (λ u. eqb u v || clash N u v)

-- ---- jobs, as they are written

-- the smallest selection for a job, or none
abbrev pub smallest_of : {N : Type 0} → Job N → Option ℕ
smallest_of job = selection (network_of job) (order job) 0

-- another first set; the others stay
abbrev pub with_first : ℕ → List ℕ → List ℕ
with_first s sets = s ∷ drop 1 sets

-- a record without wishes; all else of it stays
abbrev pub wishless : {N : Type 0} → Record N → Record N
wishless r = record { before = with_first 0 r.before; name = r.name; after = r.after }

-- records from number i on: those whose number is in out are without wishes
unfoldable pub emptied_from : {N : Type 0} → ℕ → ℕ → List (Record N) → List (Record N)
emptied_from out i [] = []
emptied_from out i (r ∷ rs) = cond (member out i) (wishless r) r ∷ emptied_from out (suc i) rs

-- the job with the wishes of the articles of out emptied
abbrev pub emptied_job : {N : Type 0} → Job N → ℕ → Job N
emptied_job job out = record { kind = job.kind; counts = job.counts; heads = job.heads; records = emptied_from out 0 job.records }

-- the job with another order
abbrev pub ordered : {N : Type 0} → Job N → ℕ → Job N
ordered job p = record { kind = job.kind; counts = job.counts; heads = with_first p job.heads; records = job.records }

-- the job that v leaves: its wishes are not ordered any more, and nothing that it bars carries a wish
abbrev pub left_by : {N : Type 0} → Job N → ℕ → Job N
left_by job v = emptied_job (ordered job (without (order job) ((network_of job).wishes v))) (barred (network_of job) v)
