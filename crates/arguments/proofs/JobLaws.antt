-- From what an accepted choice file was read as to the job that it states: what every call on one begins with. Assumes nothing.
use mathlib.Core.Path.{◌≡◌, sym, ap, subst, ◌∙◌}
use mathlib.Core.List.{List}
use Prim.Native.Nat.{ℕ}
use lib.ListN.{get_or}
use Rattle.reading.specs.Got.{got}
use Rattle.reading.specs.Items.{spots}
use Rattle.std.specs.Prelude.{Ok}
use Rattle.jobfile.specs.declared.ReadChoice.{ReadChoice}
use Rattle.jobfile.specs.Job.{Job, wish_count, order, prices}
use Rattle.jobfile.specs.Meaning.{as_choice, choice_read, Few, ChoiceBounds}
use Rattle.jobfile.specs.Read.{read, read_job, choices}
use Rattle.jobfile.proofs.NamingLaws.{map_got, job_by, read_same}
use Rattle.network.specs.Network.{network_of}
use Rattle.arguments.specs.Meaning.{network_in}
use Rattle.arguments.proofs.FileLaws.{as-taken}
use Rattle.arguments.proofs.TestLaws.{network-same, price-same}

-- what was read of a choice file states a job: its network, its count of wishes, its order and its prices
pub record ChoiceRead (f : List ℕ) (r : ReadChoice) : Type 0 where
  pub job : Job (List ℕ)
  pub end : ℕ
  pub is : read_job choices f ≡ got job end
  pub network : network_in r ≡ network_of job
  pub counted : r.wish_count ≡ wish_count job
  pub wanted : r.order ≡ order job
  pub priced : (i : ℕ) → get_or r.prices i 0 ≡ get_or (prices job) i 0

pub choice-read : (f : List ℕ) (r : ReadChoice) → Ok r ≡ choice_read (read spots choices f) → ChoiceBounds f r → ChoiceRead f r
choice-read f r e bounds =
    let t = as-taken as_choice (read spots choices f) (sym e) in
    let q : r ≡ as_choice t.job = t.told in
    record {
      job = job_by f t.job;
      end = t.end;
      is = read_same f choices ∙ ap (map_got (job_by f)) t.is;
      network = ap network_in q ∙ network-same f t.job t.end (subst (Few 64) t.is bounds.3);
      counted = ap (λ x. x.wish_count) q;
      wanted = ap (λ x. x.order) q;
      priced = λ i. ap (λ (x : ReadChoice). get_or x.prices i 0) q ∙ price-same f t.job t.end (subst (Few 64) t.is bounds.3) i;
    }
