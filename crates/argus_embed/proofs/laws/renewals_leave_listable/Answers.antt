-- It has what a checkpoint leaves, but for the number of the first action.
use Rattle.std.proofs.Common.{ap, arith, inl, inr, ⊎_elim, ◌≡◌}
use Rattle.argus_guardian.specs.{Checkpoint.after_checkpoint, JournalText.{IsEmptyOrReadable, IsReadableOpening}}
use Rattle.argus_journal.specs.Opening.{Opening, empty, opening_at}
use Rattle.argus_embed.proofs.laws.renewals_leave_listable.Goals as goal

-- an opening can be read with actions from 0 on, too
from_zero : (s : Opening) → IsEmptyOrReadable s → IsEmptyOrReadable (opening_at s.objects 0 s.first_entry)
from_zero s =
    ⊎_elim (λ (is : s ≡ empty). inl (ap (λ (x : Opening). opening_at x.objects 0 x.first_entry) is))
    (λ (readable : IsReadableOpening s). inr (record {
      some = readable.some;
      limits = record {
        objects = readable.limits.objects;
        actions = omega arith;
        entries = readable.limits.entries;
      };
      objects = readable.objects;
    }))

pub returns : goal.returns
returns c = λ journal listable within.
    let folded = c.journals_stay_listable.ensures.checkpoints journal listable within in
    record {
      opening = from_zero (after_checkpoint journal).opening folded.opening;
      calls = tt;
      legal = tt;
      sound = folded.sound;
      numbers = folded.numbers;
    }
