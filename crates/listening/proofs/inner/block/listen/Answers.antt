-- `listening::inner::block::listen` meets its contract. Assumes nothing.
use Rattle.sequences.proofs.Basics.{arith}
use Rattle.listening.proofs.Hearing.{block_room, listens_accepted, listens_refused}
use Rattle.listening.proofs.inner.block.listen.Goals as goal

pub beside-requires : goal.beside-requires
beside-requires c =
    let long = c.hear-heard.auto.output in
    let room = block_room c.hear-heard.ensures c.in-Ok.is in
    (room.0, room.1, omega (arith, long, room.2), omega (arith, long, room.3))

pub returns-in-Ok : goal.returns-in-Ok
returns-in-Ok c = listens_accepted c.hear-heard.ensures c.weigh.ensures c.in-Ok.is c.beside.ensures

pub returns-in-Err : goal.returns-in-Err
returns-in-Err c = listens_refused c.hear-heard.ensures c.weigh.ensures c.in-Err.is
