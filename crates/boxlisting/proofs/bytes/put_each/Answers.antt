-- `boxlisting::bytes::put_each` meets its contract. The loop's invariant: the first so many bytes have their texts.
use native.Mathlib.Omega.{arith}
use Rattle.boxlisting.specs.Bytes.{byte_text}
use Rattle.boxlisting.proofs.BytesLaws.{each_none, each_more, each_all}
use Rattle.boxlisting.proofs.bytes.put_each.Goals as goal

pub loop-b-init : goal.loop-b-init
loop-b-init c = (omega arith, each_none (byte_text c.args.in_hex) c.args.bytes.now _ _)

pub loop-b-preserved : goal.loop-b-preserved
loop-b-preserved c =
    let inv = c.loop-b.invariant in
    let args = c.args in
    let i = c.loop-b.b-index in
    let (puts, low) = c.put_byte-next.ensures in
    (omega (arith, inv.0), each_more (byte_text args.in_hex) args.bytes.now _ _ i (omega arith) inv.1 puts)

pub returns : goal.returns
returns c =
    let inv = c.loop-b.invariant in
    (each_all _ c.args.bytes.now _ _ c.loop-b.b-index (omega arith) inv.1, omega (arith, inv.0))
