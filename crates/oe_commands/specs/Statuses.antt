-- The status of a run, its exit code, and its line on standard error.
use Rattle.std.specs.Prelude.{ℕ, List, ◌++◌, codes}
use Rattle.oe_keeper.specs.declared.change.Table.{Table}
use Rattle.oe_keeper.specs.declared.change.Table.TheVariants as tables
use Rattle.oe_http.specs.declared.session.Ended.{Ended}
use Rattle.oe_http.specs.declared.session.Ended.TheVariants as endings
use Rattle.desk_service.specs.declared.service.ServiceEnd.{ServiceEnd}
use Rattle.desk_service.specs.declared.service.ServiceEnd.TheVariants as ends
use Rattle.desk_receipts.specs.declared.renewal.OpenRefusal.{OpenRefusal}
use Rattle.desk_receipts.specs.declared.renewal.OpenRefusal.TheVariants as refusals
use Rattle.oe_commands.specs.declared.status.Status.{Status}
use Rattle.oe_commands.specs.declared.status.Status.TheVariants as statuses

-- the status by how the session ended; a session over lines is never cut short or refused
abbrev pub status_of : Ended → Status
status_of endings.Closed = statuses.Done
status_of endings.Truncated = statuses.Done
status_of (endings.Refused number) = statuses.Done
status_of endings.ReadFault = statuses.ReadFault
status_of endings.WriteFault = statuses.WriteFault
status_of endings.Long = statuses.InputLong
status_of endings.NoMemory = statuses.NoMemory

-- the status by why no desk was opened
abbrev pub refused_by : OpenRefusal → Status
refused_by refusals.KeeperFault = statuses.KeeperFault
refused_by (refusals.BadRow table key) = statuses.BadRow table key
refused_by refusals.NoMemory = statuses.NoMemory

-- the status by how a service of links ended
abbrev pub served_status : ServiceEnd → Status
served_status ends.Done = statuses.Done
served_status ends.GateFault = statuses.GateFault
served_status ends.WriteFault = statuses.WriteFault
served_status ends.NoMemory = statuses.NoMemory

-- the exit code of the program
abbrev pub number_of : Status → ℕ
number_of statuses.Done = 0
number_of statuses.Usage = 2
number_of statuses.ReadFault = 3
number_of statuses.WriteFault = 4
number_of statuses.KeeperFault = 5
number_of (statuses.BadRow table key) = 6
number_of statuses.NoMemory = 7
number_of statuses.InputLong = 8
number_of statuses.GateFault = 9

-- the name of a table
abbrev pub table_name : Table → List ℕ
table_name tables.Airfield = codes "airfield"
table_name tables.Runway = codes "runway"
table_name tables.Desk = codes "desk"
table_name tables.Filing = codes "filing"
table_name tables.Receipt = codes "receipt"

-- the line on standard error
abbrev pub line_of : Status → List ℕ
line_of statuses.Done = codes ""
line_of statuses.Usage = codes "oe: usage"
line_of statuses.ReadFault = codes "oe: read fault"
line_of statuses.WriteFault = codes "oe: write fault"
line_of statuses.KeeperFault = codes "oe: keeper fault"
line_of (statuses.BadRow table key) = codes "oe: bad row " ++ table_name table ++ codes " " ++ key
line_of statuses.NoMemory = codes "oe: no memory"
line_of statuses.InputLong = codes "oe: input too long"
line_of statuses.GateFault = codes "oe: gate fault"
