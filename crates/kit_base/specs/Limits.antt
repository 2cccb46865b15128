-- The limits that several crates keep, each by one name.
use Rattle.std.specs.Prelude.{ℕ}

-- the octets of the longest message
abbrev pub longest_message : ℕ
longest_message = 4194304

-- the octets of the longest line of an input
abbrev pub longest_line : ℕ
longest_line = 8388608

-- the octets of the longest interface file
abbrev pub longest_file : ℕ
longest_file = 1048576

-- the octets of the longest file of replies
abbrev pub longest_replies : ℕ
longest_replies = 8388608

-- the octets of the longest file of stubs
abbrev pub longest_stubs : ℕ
longest_stubs = 8388608

-- the octets that may be taken of an input
abbrev pub most_input : ℕ
most_input = 1073741824

-- the nodes of the largest table of types
abbrev pub most_nodes : ℕ
most_nodes = 65536

-- the levels of the deepest type
abbrev pub deepest : ℕ
deepest = 32

-- the weight of the heaviest blank value
abbrev pub heaviest_blank : ℕ
heaviest_blank = 1048576

-- the weight of the heaviest value
abbrev pub heaviest : ℕ
heaviest = 268435456

-- the labels of the longest enum, and the arms of the longest discriminated union
abbrev pub most_labels : ℕ
most_labels = 4096

-- the exceptions that one operation may raise
abbrev pub most_raises : ℕ
most_raises = 4095

-- the interfaces of a unit
abbrev pub most_interfaces : ℕ
most_interfaces = 64

-- the operations of one interface
abbrev pub most_operations : ℕ
most_operations = 256

-- the octets of the longest name of an interface or operation, and of the longest id of an exception
abbrev pub longest_name : ℕ
longest_name = 16777216

-- the nodes that the request and the reply of one operation unfold to
abbrev pub most_operation_nodes : ℕ
most_operation_nodes = 65536

-- the nodes that the requests and replies of all operations unfold to
abbrev pub most_unit_nodes : ℕ
most_unit_nodes = 262144
