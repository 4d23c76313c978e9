-- Addresses on loopback.
use Rattle.std.specs.Prelude.{ℕ, List}
use Rattle.std.specs.Net.Addr.{MatchIp, IsLoopbackV4, IsLoopbackV6}
use Rattle.std.specs.Net.Socket.{socket_ip}
use Rattle.std.specs.Net.Grammar.{IsSocketText}
use Rattle.std.specs.declared.net.socket_addr.SocketAddr.{SocketAddr}

-- the text writes this address, which is 127.0.0.0/8 or ::1
abbrev pub Spells : List ℕ → SocketAddr → Type 0
Spells text address = IsSocketText text address × MatchIp (socket_ip address) IsLoopbackV4 IsLoopbackV6

-- the text writes an address on loopback, with a port
abbrev pub IsLoopbackText : List ℕ → Type 0
IsLoopbackText text = (address : SocketAddr) × Spells text address
