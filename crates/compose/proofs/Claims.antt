-- Demand 3 of the code: what `swap` and `join` promise, in one form. `front_left`, `past_left` and `refused_left` in the model's Answered
-- say what it comes to for the words at the front of the buffer, for those past them, and where it is a refusal. The theorems of the
-- model's Demand3 take `join … ≡ passes ws` or `swap … ≡ passes ws`, ws being the words that are judged next: `front_left` gives this.
use lib.ListN.{length}
use Rattle.model.specs.Answers.{Answer}
use Rattle.model.specs.Calls.{swap, swap_said, swap_out, join, join_said, join_out}
use Rattle.model.specs.Demands.{Promised}
use Rattle.compose.proofs.swap.Reads as of_swap
use Rattle.compose.proofs.join.Reads as of_join

-- The promises that are proved of the code give this one: `Post` is how the `ensures` of a function read, of lifetimes κs, arguments a,
-- answer r, and x, what the arguments hold at the end.
pub swap_promised : (κs : _) (a : _) (r : Answer) (x : _) → of_swap.Post κs a r x
    → Promised (swap a.0.now (length a.1.0.now)) a.1.0.now r x.1.0.now
unfolding swap_said swap_out
swap_promised κs a r x (answer, buffer) = record { answer = answer; buffer = buffer }

pub join_promised : (κs : _) (a : _) (r : Answer) (x : _) → of_join.Post κs a r x
    → Promised (join a.0.now a.1.0.now (length a.1.1.0.now)) a.1.1.0.now r x.1.1.0.now
unfolding join_said join_out
join_promised κs a r x (answer, buffer) = record { answer = answer; buffer = buffer }
