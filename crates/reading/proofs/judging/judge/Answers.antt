-- `reading::judging::judge` meets its contract.
use Rattle.reading.proofs.judging.judge.Goals as goal

pub returns : goal.returns
returns c =
    let into = c.judge_into.ensures in
    (into.0, into.2, into.3)
