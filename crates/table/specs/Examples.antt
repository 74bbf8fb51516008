-- The table: the examples of docs/MACHINE.md and docs/CHECK.md.
use Rattle.std.specs.Prelude.{List, [], ◌∷◌, pos, negsuc, codes}
use Prim.Native.String.{String}
use Rattle.table.specs.Rows.{codes_to, halts, leaves, faults, passes, gives, Row, row}

-- the example of a call, with two lines left open: its first LOAD and its RET
abbrev pub net : String → String → List String
net load ret = ".UNIT net, 2, 1" ∷ "RMEM 1" ∷ "PUSH 40" ∷ "PUSH -55" ∷ "PUSH net" ∷ "CALL" ∷ "IPRINT" ∷ "HALT" ∷ "net: LOADFP" ∷ "LOADSP" ∷ "STOREFP" ∷ load ∷ "LOAD 3" ∷ "ADD" ∷ "STORE 5" ∷ "STOREFP" ∷ ret ∷ []

-- assembly, runs, arithmetic, then the check
abbrev pub examples : List Row
examples =
    row (net "LOAD 4" "RET 2") 31 (codes_to (pos 39 ∷ pos 1 ∷ pos 1 ∷ pos 40 ∷ pos 1 ∷ negsuc 54 ∷ pos 1 ∷ pos 11 ∷ pos 35 ∷ pos 27 ∷ pos 42 ∷ pos 36 ∷ pos 37 ∷ pos 38 ∷ pos 30 ∷ pos 4 ∷ pos 30 ∷ pos 3 ∷ pos 2 ∷ pos 31 ∷ pos 5 ∷ pos 38 ∷ pos 41 ∷ pos 2 ∷ []))
    ∷ row (net "LOAD 4" "RET 2") 31 (halts 16 (pos 10) (codes "-15"))
    ∷ row (net "LOAD 4" "RET 2") 30 (faults 27 (pos 16) 9)
    ∷ row ("PUSH -7" ∷ "PUSH 2" ∷ "DIV" ∷ "HALT" ∷ []) 16 (leaves (negsuc 2))
    ∷ row ("PUSH -7" ∷ "PUSH 2" ∷ "MOD" ∷ "HALT" ∷ []) 16 (leaves (negsuc 0))
    ∷ row ("PUSH 2147483647" ∷ "PUSH 1" ∷ "ADD" ∷ "HALT" ∷ []) 16 (faults 31 (pos 4) 2)
    ∷ row (net "LOAD 4" "RET 2") 31 passes
    ∷ row (net "LOAD 5" "RET 2") 31 passes
    ∷ row (net "LOAD 6" "RET 2") 31 (gives 18 (pos 14))
    ∷ row (net "LOAD 2" "RET 2") 31 (gives 18 (pos 14))
    ∷ row (net "LOAD 4" "RET 1") 31 (gives 16 (pos 21))
    ∷ row ("a: PUSH 1" ∷ "JUMP a" ∷ []) 16 (gives 20 (pos 0))
    ∷ row ("RMEM 1000" ∷ "HALT" ∷ []) 16 passes
    ∷ row ("RMEM 1000" ∷ "PUSH 1" ∷ "HALT" ∷ []) 16 (gives 19 (pos 2))
    ∷ row [] 16 (gives 15 (pos 0))
    ∷ []
