mod Earliest
