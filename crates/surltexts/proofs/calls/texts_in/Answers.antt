-- `surltexts::calls::texts_in` meets its contract: the texts are counted, then 26, then they are put.
use native.Mathlib.Omega.{arith}
use Rattle.surltexts.proofs.CallsLaws.{tells_refused, texts_short, lengths_short, tells_given}
use Rattle.surltexts.proofs.calls.texts_in.Goals as goal

pub returns-then-texts-amount : goal.returns-then-texts-amount
returns-then-texts-amount c bs known inside =
    tells_refused _ _ (texts_short _ _ _ (c.put_surls-amount.ensures bs known inside) c.if-texts-amount.true)

pub returns-then-lengths-amount : goal.returns-then-lengths-amount
returns-then-lengths-amount c bs known inside =
    tells_refused _ _ (lengths_short _ _ _ (c.put_surls-amount.ensures bs known inside) c.if-lengths-amount.true)

pub returns : goal.returns
returns c bs known inside =
    tells_given _ _ _ (c.put_surls-amount.ensures bs known inside) (omega (arith, c.if-texts-amount.false)) (omega (arith, c.if-lengths-amount.false))
    (c.put_surls.ensures bs known inside)
