-- Which network a log stands for.
use Rattle.std.specs.Prelude.{List, take}
use Rattle.transport.specs.Network.{Network}
use Rattle.shared_log.specs.declared.Record.{Record}
use Rattle.shared_log.specs.declared.Log.{Log}
use Rattle.shared_log.specs.Records.{log_network}

-- the records of the messages that wait
abbrev pub live : Log → List Record
live l = take l.used l.records.now

-- the network of the log's ranks and room for which those stand
abbrev pub log_meaning : Log → Network
log_meaning l = log_network l.ranks l.room (live l)
