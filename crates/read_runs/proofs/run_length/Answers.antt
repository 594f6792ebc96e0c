-- `read_runs::run_length` meets its contract: the first byte that fails the test ends the run.
use mathlib.Core.Path.{◌∙◌}
use mathlib.Core.Bool.{not}
use Rattle.std.proofs.Common.{rules, tests}
use Rattle.std.proofs.lemmas.Iterator.{YieldsList-from_slice}
use Rattle.std.proofs.lemmas.Iterator.Search.{position_from_yields_List}
use Rattle.read_runs.proofs.RunLaws.{run_found, fails_by}
use Rattle.read_runs.proofs.run_length.Goals as goal

pub returns : goal.returns
returns g c = λ t k.
    let found = position_from_yields_List (λ b. not (t b)) _ _ _ c.position.ensures.ran (YieldsList-from_slice _ c.iter.ensures.rest)
    (λ x b q h. (search (rules, h), search (rules, tests, fails_by k, h))) in
    c.unwrap_or.ensures ∙ run_found t c.args.bytes.now found
