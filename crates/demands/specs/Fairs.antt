-- What the user asks of a fair's orders, in words that no code computes with. proofs/Fairs.antt proves it.
use Rattle.std.specs.Prelude.{◌≡◌, ◌⊎◌, List, [], ◌∷◌, ◌++◌, ℕ, ◌*◌, ◌≤◌, length, take, drop}
use Rattle.sets.specs.Sets.{◌∈◌}
use Rattle.sets.specs.First.{LeastFrom}
use Rattle.jobfile.specs.Job.{Job, wish_count}
use Rattle.network.specs.Network.{network_of, Selection}
use Rattle.network.specs.Groups.{group_of}
use Rattle.filter.specs.Filter.{set_aside}
use Rattle.choice.specs.Choice.{sole_goal}
use Rattle.arguments.specs.Answers.{answered, said}
use Rattle.changes.specs.Change.{Change, new_order}
use Rattle.bill.specs.Price.{price_words_of}
use Rattle.calls.specs.Partition.{partition_of}
use Rattle.calls.specs.Pass.{pass_of}
use Rattle.calls.specs.Choose.{choose_of}
use Rattle.calls.specs.Layers.{fact_layer_of, round_layer_of}
use Rattle.calls.specs.Plan.{plan_of}
use Rattle.calls.specs.Find.{find_of}
use Rattle.calls.specs.Compare.{compare_of}
use Rattle.calls.specs.Save.{save_of}
use Rattle.fair.specs.Fair.{fair_of}
use Rattle.demands.specs.Demands.{Says}

-- entry i of the words: the three from word 3i on
abbrev pub entry_at : List ℕ → ℕ → List ℕ
entry_at words i = take 3 (drop (3 * i) words)

-- an entry is one of three: the status 18 or 14, with 0 in the other two words; or the status 0 with two sets of articles
abbrev pub Entry : List ℕ → Type 0
Entry words = (words ≡ 18 ∷ 0 ∷ 0 ∷ []) ⊎ ((words ≡ 14 ∷ 0 ∷ 0 ∷ []) ⊎ ((x aside : ℕ) × (words ≡ 0 ∷ x ∷ aside ∷ [])))

-- an order names a wish that the file lacks; if it names none such, it fits
abbrev pub Lacking : Job (List ℕ) → ℕ → Type 0
Lacking job wanted = (m : ℕ) × (wish_count job ≤ m) × (m ∈ wanted)

abbrev pub FitsFile : Job (List ℕ) → ℕ → Type 0
FitsFile job wanted = Lacking job wanted → ⊥

-- this is the file that saving the order writes, into any buffer that has room for it; later bytes stay as they were
abbrev pub SavedAs : List ℕ → ℕ → List ℕ → Type 0
SavedAs file wanted new = (to : List ℕ) → length new ≤ length to → save_of file (new_order wanted) to ≡ record { answer = answered (length new); buffer = new ++ drop (length new) to }

-- x is the smallest selection for the order; the set aside is that of our own partition and of the order as the only goal, and shares no article with
-- any selection
abbrev pub ChosenFor : Job (List ℕ) → ℕ → ℕ → ℕ → Type 0
ChosenFor job wanted x aside =
    LeastFrom (Selection (network_of job) wanted) 0 x × (aside ≡ set_aside (network_of job) (group_of (network_of job)) (sole_goal wanted)) × ((y u : ℕ) → Selection (network_of job) wanted y → u ∈ aside → u ∈ y → ⊥)

-- ---- a number that is a status only

-- no open call on the file answers in the form of a refusal by this number, whatever else it is lent. The call for a name has no refusals
pub record NoCallSays (number : ℕ) (file : List ℕ) : Type 0 where
  pub partition : (buffer : List ℕ) → Says (partition_of file buffer).answer number → ⊥
  pub pass : (groups : List ℕ) (live goal : ℕ) → Says (said (pass_of file groups live goal)) number → ⊥
  pub choose : (groups goals : List ℕ) (floor : ℕ) → Says (said (choose_of file groups goals floor)) number → ⊥
  pub price : (rate : ℕ) → Says (said (price_words_of file rate)) number → ⊥
  pub fair : (orders buffer : List ℕ) → Says (fair_of file orders buffer).answer number → ⊥
  pub fact_layer : (k : ℕ) (buffer : List ℕ) → Says (fact_layer_of file k buffer).answer number → ⊥
  pub round_layer : (k : ℕ) (buffer : List ℕ) → Says (round_layer_of file k buffer).answer number → ⊥
  pub plan : (buffer : List ℕ) → Says (said (plan_of file buffer)) number → ⊥
  pub find : (name : List ℕ) → Says (said (find_of file name)) number → ⊥
  pub compare : (second : List ℕ) → Says (said (compare_of file second)) number → ⊥
  pub save : (change : Change) (buffer : List ℕ) → Says (save_of file change buffer).answer number → ⊥
